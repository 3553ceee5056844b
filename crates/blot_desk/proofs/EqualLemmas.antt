-- When two events and two replies are one: what `==` computes decides equality.
use Rattle.std.proofs.Common.{◌≡◌, ◌&&◌, Bool, Option, Some, None, refl, ap, Decides}
use Rattle.std.specs.Option.{option_eq}
use Rattle.std.proofs.lemmas.Bool.Decides.{Decides-and, Decides-eqb, Decides-int_eq}
use Rattle.std.proofs.lemmas.Slice.Eq.{bytes_eq-Decides, slice_eq-Decides}
use Rattle.blot_types.specs.declared.{keys.ExecKey.ExecKey, keys.OrderKey.OrderKey, keys.AllocKey.AllocKey, fill.Fill.Fill, allocation.Line.Line, allocation.Terms.Terms, command.Trade.Trade, command.Correct.Correct, command.Bust.Bust, command.AllocNew.AllocNew, command.AllocReplace.AllocReplace, command.AllocCancel.AllocCancel, lines.OrderLine.OrderLine, lines.PositionLine.PositionLine, fill.Sign.Sign, refused.Refused.Refused, command.Command.Command}
use Rattle.blot_types.specs.declared.fill.Sign.TheVariants as sign_of
use Rattle.blot_types.specs.declared.refused.Refused.TheVariants as refused_of
use Rattle.blot_types.specs.declared.command.Command.TheVariants as command_of
use Rattle.blot_types.specs.contracts.keys.ExecKeyPartialEq.TheImpl.{ghosts as exec}
use Rattle.blot_types.specs.contracts.keys.OrderKeyPartialEq.TheImpl.{ghosts as order}
use Rattle.blot_types.specs.contracts.keys.AllocKeyPartialEq.TheImpl.{ghosts as alloc}
use Rattle.blot_types.specs.contracts.fill.FillPartialEq.TheImpl.{ghosts as fill}
use Rattle.blot_types.specs.contracts.allocation.LinePartialEq.TheImpl.{ghosts as line}
use Rattle.blot_types.specs.contracts.allocation.TermsPartialEq.TheImpl.{ghosts as terms}
use Rattle.blot_types.specs.contracts.command.TradePartialEq.TheImpl.{ghosts as trade}
use Rattle.blot_types.specs.contracts.command.CorrectPartialEq.TheImpl.{ghosts as correct}
use Rattle.blot_types.specs.contracts.command.BustPartialEq.TheImpl.{ghosts as bust}
use Rattle.blot_types.specs.contracts.command.AllocNewPartialEq.TheImpl.{ghosts as alloc_new}
use Rattle.blot_types.specs.contracts.command.AllocReplacePartialEq.TheImpl.{ghosts as alloc_replace}
use Rattle.blot_types.specs.contracts.command.AllocCancelPartialEq.TheImpl.{ghosts as alloc_cancel}
use Rattle.blot_types.specs.contracts.lines.OrderLinePartialEq.TheImpl.{ghosts as order_line}
use Rattle.blot_types.specs.contracts.lines.PositionLinePartialEq.TheImpl.{ghosts as position_line}
use Rattle.blot_types.specs.contracts.fill.SignPartialEq.TheImpl.{ghosts as sign}
use Rattle.blot_types.specs.contracts.refused.RefusedPartialEq.TheImpl.{ghosts as refused}
use Rattle.blot_types.specs.contracts.command.CommandPartialEq.TheImpl.{ghosts as command}
use Rattle.blot_desk.specs.declared.{event.Event.Event, event.Reply.Reply}
use Rattle.blot_desk.specs.declared.event.Event.TheVariants as event_of
use Rattle.blot_desk.specs.declared.event.Reply.TheVariants as reply_of
use Rattle.blot_desk.specs.contracts.event.EventPartialEq.TheImpl.{ghosts as event}
use Rattle.blot_desk.specs.contracts.event.ReplyPartialEq.TheImpl.{ghosts as reply}

-- the test decides what follows from what it decided, and leads back to it
pub told : {P Q : Type 0} {r : Bool} → Decides r P → (P → Q) → (Q → P) → Decides r Q
told decides there back = (λ same. there (decides.0 same), λ is. decides.1 (back is))

both : {P Q : Type 0} {x y : Bool} → Decides x P → Decides y Q → Decides (x && y) (P × Q)
both first second = Decides-and _ _ first second

option_same : {A : Type 0} {test : A → A → Bool} → ((a b : A) → Decides (test a b) (a ≡ b)) → (a b : Option A) → Decides (option_eq test a b) (a ≡ b)
option_same each None None = (λ same. refl, λ is. refl)
option_same each (Some a) (Some b) = told (each a b) (λ e. ap Some e) (λ is. cc)
option_same each a b = (λ same. cc, λ is. cc)

sign_same : (a b : Sign) → Decides (sign.eq a b) (a ≡ b)
sign_same sign_of.Buy sign_of.Buy = (λ same. refl, λ is. refl)
sign_same sign_of.Sell sign_of.Sell = (λ same. refl, λ is. refl)
sign_same a b = (λ same. cc, λ is. cc)

exec_same : (a b : ExecKey) → Decides (exec.eq a b) (a ≡ b)
exec_same a b =
    told (both (bytes_eq-Decides a.peer b.peer) (bytes_eq-Decides a.id b.id))
    (λ e i. record { peer = e.0 i; id = e.1 i })
    (λ is. (ap (λ (x : ExecKey). x.peer) is, ap (λ (x : ExecKey). x.id) is))

order_same : (a b : OrderKey) → Decides (order.eq a b) (a ≡ b)
order_same a b =
    told (both (bytes_eq-Decides a.peer b.peer) (bytes_eq-Decides a.id b.id))
    (λ e i. record { peer = e.0 i; id = e.1 i })
    (λ is. (ap (λ (x : OrderKey). x.peer) is, ap (λ (x : OrderKey). x.id) is))

alloc_same : (a b : AllocKey) → Decides (alloc.eq a b) (a ≡ b)
alloc_same a b =
    told (both (bytes_eq-Decides a.peer b.peer) (bytes_eq-Decides a.id b.id))
    (λ e i. record { peer = e.0 i; id = e.1 i })
    (λ is. (ap (λ (x : AllocKey). x.peer) is, ap (λ (x : AllocKey). x.id) is))

fill_same : (a b : Fill) → Decides (fill.eq a b) (a ≡ b)
fill_same a b =
    told (both (order_same a.order b.order) (both (option_same bytes_eq-Decides a.account b.account) (both (bytes_eq-Decides a.symbol b.symbol) (both (sign_same a.sign b.sign) (both (Decides-int_eq a.size b.size) (both (Decides-eqb a.qty b.qty) (both (Decides-int_eq a.price b.price) (Decides-int_eq a.day b.day))))))))
    (λ e i. record { order = e.0 i; account = e.1.0 i; symbol = e.1.1.0 i; sign = e.1.1.1.0 i; size = e.1.1.1.1.0 i; qty = e.1.1.1.1.1.0 i; price = e.1.1.1.1.1.1.0 i; day = e.1.1.1.1.1.1.1 i })
    (λ is. (ap (λ (x : Fill). x.order) is, (ap (λ (x : Fill). x.account) is, (ap (λ (x : Fill). x.symbol) is, (ap (λ (x : Fill). x.sign) is, (ap (λ (x : Fill). x.size) is, (ap (λ (x : Fill). x.qty) is, (ap (λ (x : Fill). x.price) is, ap (λ (x : Fill). x.day) is))))))))

line_same : (a b : Line) → Decides (line.eq a b) (a ≡ b)
line_same a b =
    told (both (bytes_eq-Decides a.account b.account) (both (Decides-eqb a.qty b.qty) (Decides-int_eq a.price b.price)))
    (λ e i. record { account = e.0 i; qty = e.1.0 i; price = e.1.1 i })
    (λ is. (ap (λ (x : Line). x.account) is, (ap (λ (x : Line). x.qty) is, ap (λ (x : Line). x.price) is)))

terms_same : (a b : Terms) → Decides (terms.eq a b) (a ≡ b)
terms_same a b =
    told (both (bytes_eq-Decides a.symbol b.symbol) (both (sign_same a.sign b.sign) (both (Decides-int_eq a.day b.day) (both (Decides-eqb a.block b.block) (both (slice_eq-Decides exec_same a.execs b.execs _ refl) (slice_eq-Decides line_same a.lines b.lines _ refl))))))
    (λ e i. record { symbol = e.0 i; sign = e.1.0 i; day = e.1.1.0 i; block = e.1.1.1.0 i; execs = e.1.1.1.1.0 i; lines = e.1.1.1.1.1 i })
    (λ is. (ap (λ (x : Terms). x.symbol) is, (ap (λ (x : Terms). x.sign) is, (ap (λ (x : Terms). x.day) is, (ap (λ (x : Terms). x.block) is, (ap (λ (x : Terms). x.execs) is, ap (λ (x : Terms). x.lines) is))))))

trade_same : (a b : Trade) → Decides (trade.eq a b) (a ≡ b)
trade_same a b =
    told (both (exec_same a.key b.key) (fill_same a.fill b.fill))
    (λ e i. record { key = e.0 i; fill = e.1 i })
    (λ is. (ap (λ (x : Trade). x.key) is, ap (λ (x : Trade). x.fill) is))

correct_same : (a b : Correct) → Decides (correct.eq a b) (a ≡ b)
correct_same a b =
    told (both (exec_same a.key b.key) (both (exec_same a.reference b.reference) (fill_same a.fill b.fill)))
    (λ e i. record { key = e.0 i; reference = e.1.0 i; fill = e.1.1 i })
    (λ is. (ap (λ (x : Correct). x.key) is, (ap (λ (x : Correct). x.reference) is, ap (λ (x : Correct). x.fill) is)))

bust_same : (a b : Bust) → Decides (bust.eq a b) (a ≡ b)
bust_same a b =
    told (both (exec_same a.key b.key) (exec_same a.reference b.reference))
    (λ e i. record { key = e.0 i; reference = e.1 i })
    (λ is. (ap (λ (x : Bust). x.key) is, ap (λ (x : Bust). x.reference) is))

alloc_new_same : (a b : AllocNew) → Decides (alloc_new.eq a b) (a ≡ b)
alloc_new_same a b =
    told (both (alloc_same a.key b.key) (terms_same a.terms b.terms))
    (λ e i. record { key = e.0 i; terms = e.1 i })
    (λ is. (ap (λ (x : AllocNew). x.key) is, ap (λ (x : AllocNew). x.terms) is))

alloc_replace_same : (a b : AllocReplace) → Decides (alloc_replace.eq a b) (a ≡ b)
alloc_replace_same a b =
    told (both (alloc_same a.key b.key) (both (alloc_same a.reference b.reference) (terms_same a.terms b.terms)))
    (λ e i. record { key = e.0 i; reference = e.1.0 i; terms = e.1.1 i })
    (λ is. (ap (λ (x : AllocReplace). x.key) is, (ap (λ (x : AllocReplace). x.reference) is, ap (λ (x : AllocReplace). x.terms) is)))

alloc_cancel_same : (a b : AllocCancel) → Decides (alloc_cancel.eq a b) (a ≡ b)
alloc_cancel_same a b =
    told (both (alloc_same a.key b.key) (alloc_same a.reference b.reference))
    (λ e i. record { key = e.0 i; reference = e.1 i })
    (λ is. (ap (λ (x : AllocCancel). x.key) is, ap (λ (x : AllocCancel). x.reference) is))

command_same : (a b : Command) → Decides (command.eq a b) (a ≡ b)
command_same (command_of.Trade a) (command_of.Trade b) = told (trade_same a b) (λ e. ap command_of.Trade e) (λ is. cc)
command_same (command_of.Correct a) (command_of.Correct b) = told (correct_same a b) (λ e. ap command_of.Correct e) (λ is. cc)
command_same (command_of.Bust a) (command_of.Bust b) = told (bust_same a b) (λ e. ap command_of.Bust e) (λ is. cc)
command_same (command_of.AllocNew a) (command_of.AllocNew b) = told (alloc_new_same a b) (λ e. ap command_of.AllocNew e) (λ is. cc)
command_same (command_of.AllocReplace a) (command_of.AllocReplace b) = told (alloc_replace_same a b) (λ e. ap command_of.AllocReplace e) (λ is. cc)
command_same (command_of.AllocCancel a) (command_of.AllocCancel b) = told (alloc_cancel_same a b) (λ e. ap command_of.AllocCancel e) (λ is. cc)
command_same (command_of.Withdraw a) (command_of.Withdraw b) = told (Decides-eqb a b) (λ e. ap command_of.Withdraw e) (λ is. cc)
command_same a b = (λ same. cc, λ is. cc)

refused_same : (a b : Refused) → Decides (refused.eq a b) (a ≡ b)
refused_same (refused_of.DuplicateExec a) (refused_of.DuplicateExec b) = told (Decides-eqb a b) (λ e. ap refused_of.DuplicateExec e) (λ is. cc)
refused_same (refused_of.DuplicateAlloc a) (refused_of.DuplicateAlloc b) = told (Decides-eqb a b) (λ e. ap refused_of.DuplicateAlloc e) (λ is. cc)
refused_same refused_of.UnknownAlloc refused_of.UnknownAlloc = (λ same. refl, λ is. refl)
refused_same (refused_of.DeadAlloc a) (refused_of.DeadAlloc b) = told (Decides-eqb a b) (λ e. ap refused_of.DeadAlloc e) (λ is. cc)
refused_same (refused_of.UnknownExec a) (refused_of.UnknownExec b) = told (exec_same a b) (λ e. ap refused_of.UnknownExec e) (λ is. cc)
refused_same (refused_of.BustedExec a) (refused_of.BustedExec b) = told (Decides-eqb a b) (λ e. ap refused_of.BustedExec e) (λ is. cc)
refused_same (refused_of.RepeatedExec a) (refused_of.RepeatedExec b) = told (exec_same a b) (λ e. ap refused_of.RepeatedExec e) (λ is. cc)
refused_same (refused_of.ExecTaken a) (refused_of.ExecTaken b) = told (Decides-eqb a b) (λ e. ap refused_of.ExecTaken e) (λ is. cc)
refused_same (refused_of.Instrument a) (refused_of.Instrument b) = told (exec_same a b) (λ e. ap refused_of.Instrument e) (λ is. cc)
refused_same (refused_of.Quantity a a2) (refused_of.Quantity b b2) = told (both (Decides-int_eq a b) (Decides-int_eq a2 b2)) (λ e i. refused_of.Quantity (e.0 i) (e.1 i)) (λ is. (cc, cc))
refused_same (refused_of.NotLive a) (refused_of.NotLive b) = told (Decides-eqb a b) (λ e. ap refused_of.NotLive e) (λ is. cc)
refused_same (refused_of.Needed a) (refused_of.Needed b) = told (Decides-eqb a b) (λ e. ap refused_of.Needed e) (λ is. cc)
refused_same refused_of.NothingToUndo refused_of.NothingToUndo = (λ same. refl, λ is. refl)
refused_same (refused_of.Moved a) (refused_of.Moved b) = told (Decides-eqb a b) (λ e. ap refused_of.Moved e) (λ is. cc)
refused_same refused_of.NothingToRedo refused_of.NothingToRedo = (λ same. refl, λ is. refl)
refused_same a b = (λ same. cc, λ is. cc)

order_line_same : (a b : OrderLine) → Decides (order_line.eq a b) (a ≡ b)
order_line_same a b =
    told (both (Decides-int_eq a.cum b.cum) (both (Decides-int_eq a.leaves b.leaves) (both (Decides-int_eq a.value b.value) (both (bytes_eq-Decides a.symbol b.symbol) (sign_same a.sign b.sign)))))
    (λ e i. record { cum = e.0 i; leaves = e.1.0 i; value = e.1.1.0 i; symbol = e.1.1.1.0 i; sign = e.1.1.1.1 i })
    (λ is. (ap (λ (x : OrderLine). x.cum) is, (ap (λ (x : OrderLine). x.leaves) is, (ap (λ (x : OrderLine). x.value) is, (ap (λ (x : OrderLine). x.symbol) is, ap (λ (x : OrderLine). x.sign) is)))))

position_line_same : (a b : PositionLine) → Decides (position_line.eq a b) (a ≡ b)
position_line_same a b =
    told (both (Decides-int_eq a.qty b.qty) (Decides-int_eq a.value b.value))
    (λ e i. record { qty = e.0 i; value = e.1 i })
    (λ is. (ap (λ (x : PositionLine). x.qty) is, ap (λ (x : PositionLine). x.value) is))

pub event_same : (a b : Event) → Decides (event.eq a b) (a ≡ b)
event_same (event_of.Submit a) (event_of.Submit b) = told (command_same a b) (λ e. ap event_of.Submit e) (λ is. cc)
event_same (event_of.Undo a) (event_of.Undo b) = told (Decides-eqb a b) (λ e. ap event_of.Undo e) (λ is. cc)
event_same event_of.Redo event_of.Redo = (λ same. refl, λ is. refl)
event_same (event_of.AskOrder a) (event_of.AskOrder b) = told (order_same a b) (λ e. ap event_of.AskOrder e) (λ is. cc)
event_same (event_of.AskPosition a a2) (event_of.AskPosition b b2) = told (both (bytes_eq-Decides a b) (bytes_eq-Decides a2 b2)) (λ e i. event_of.AskPosition (e.0 i) (e.1 i)) (λ is. (cc, cc))
event_same a b = (λ same. cc, λ is. cc)

pub reply_same : (a b : Reply) → Decides (reply.eq a b) (a ≡ b)
reply_same (reply_of.Accepted a) (reply_of.Accepted b) = told (Decides-eqb a b) (λ e. ap reply_of.Accepted e) (λ is. cc)
reply_same (reply_of.Refused a) (reply_of.Refused b) = told (refused_same a b) (λ e. ap reply_of.Refused e) (λ is. cc)
reply_same (reply_of.Undone a) (reply_of.Undone b) = told (Decides-eqb a b) (λ e. ap reply_of.Undone e) (λ is. cc)
reply_same (reply_of.Redone a) (reply_of.Redone b) = told (Decides-eqb a b) (λ e. ap reply_of.Redone e) (λ is. cc)
reply_same (reply_of.Order a) (reply_of.Order b) = told (option_same order_line_same a b) (λ e. ap reply_of.Order e) (λ is. cc)
reply_same (reply_of.Position a) (reply_of.Position b) = told (option_same position_line_same a b) (λ e. ap reply_of.Position e) (λ is. cc)
reply_same a b = (λ same. cc, λ is. cc)
