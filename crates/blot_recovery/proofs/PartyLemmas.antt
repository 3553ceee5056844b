-- What a frame says to a party, and to every other.
use Rattle.std.proofs.Common.{◌≡◌, ◌⊎◌, inl, inr, ℕ, ◌+◌, ◌≤◌, Bool, true, false, ◌&&◌, ◌||◌, not, List, [], ◌∷◌, Option, Some, refl, sym, ap, subst, ◌∙◌, cond, arith, ℤ, fold, if◌then◌else◌, filter}
use Rattle.std.specs.List.{cons_option, list_all}
use Rattle.std.proofs.lemmas.Bool.{and_from, and_parts, false≢true}
use Rattle.std.proofs.lemmas.List.Folds.{list_all-append}
use Rattle.blot_types.specs.Keys.{same_text}
use Rattle.blot_types.proofs.KeyLemmas.{same_text-true, same_text-refl}
use Rattle.blot_fields.specs.declared.TheConstants.{SEQUENCE_MAX}
use Rattle.blot_desk.specs.declared.{event.Event.TheVariants.Submit, receipt.Receipt.Receipt}
use Rattle.blot_gateway.specs.AtOnce.{are_submits, is_submit}
use Rattle.blot_diary.specs.declared.{kept.Content.Content, kept.Kept.Kept, kept.Noted.Noted, kept.Beginning.Beginning as Begun}
use Rattle.blot_diary.specs.declared.kept.Content.TheVariants.{Command, Beginning, Asked, Numbers, Wrapped, Unclear, Message}
use Rattle.blot_diary.specs.declared.kept.Party.TheVariants.{Operator, Peer}
use Rattle.blot_diary.specs.Beginnings.{begun_by, begun_said}
use Rattle.blot_diary.specs.Events.{noted_by, noted_of}
use Rattle.blot_diary.specs.Keeping.{IsInRange, IsKept, kept_in}
use Rattle.blot_diary.specs.Numbering.{expected_by, first_numbers, next_by, numbers_after, numbers_in, numbers_of, sent_after}
use Rattle.blot_recovery.specs.declared.{parties.KeptOperator.KeptOperator, parties.KeptPeer.KeptPeer}
use Rattle.blot_recovery.specs.Parties.{IsKeptOperator, IsKeptPeer, IsUnheard, brought_by, events_told, is_operator, is_peer, operator_record_after, operator_record_by, operator_records_of, peer_record_after, peer_record_by, peer_records_of}
use Rattle.blot_recovery.specs.Taking.{IsAskedBy, KeepsLast, event_noted, stands_by, stands_for, with_event}
use Rattle.blot_recovery.proofs.FrameLemmas.{brought-nil, brought-others, brought-theirs, frames_of-nil, numbers_of-last, operator_records_of-last, peer_records_of-last}
use Rattle.blot_recovery.proofs.TestLemmas.{middle-false, not_same}

-- ---- the events

-- one event, if there is one, among those of a peer
abbrev pub of_peer : List ℕ → Option Noted → List Noted
of_peer name noted = filter (λ noted. is_peer name noted.party) (cons_option noted [])

-- among those of an operator
abbrev pub of_operator : List ℕ → Option Noted → List Noted
of_operator name noted = filter (λ noted. is_operator name noted.party) (cons_option noted [])

-- what a peer's frame brings is the peer's
theirs : (name from : List ℕ) (content : Content) (received sent : Bool) → (received ≡ true → same_text from name ≡ true) → stands_by content received sent ≡ true
    → of_peer name (noted_by from content) ≡ cons_option (noted_by from content) []
theirs name from (Command command) received sent so is =
    let noted : Noted = record { party = Peer from; event = Submit command } in ap (λ test. cond test (noted ∷ []) []) (so is)
theirs name from (Beginning day) received sent so is = absurd (false≢true is)
theirs name from (Asked operator event) received sent so is = absurd (false≢true is)
theirs name from (Numbers numbers) received sent so is = refl
theirs name from Wrapped received sent so is = refl
theirs name from Unclear received sent so is = absurd (false≢true is)
theirs name from Message received sent so is = refl

-- it is a submit
one-submit : (from : List ℕ) (content : Content) (received sent : Bool) → stands_by content received sent ≡ true
    → list_all is_submit (cons_option (event_noted (noted_by from content)) []) ≡ true
one-submit from (Command command) received sent is = refl
one-submit from (Beginning day) received sent is = refl
one-submit from (Asked operator event) received sent is = absurd (false≢true is)
one-submit from (Numbers numbers) received sent is = refl
one-submit from Wrapped received sent is = refl
one-submit from Unclear received sent is = refl
one-submit from Message received sent is = refl

-- no other peer brings it
others : (name from : List ℕ) (content : Content) → same_text from name ≡ false → of_peer name (noted_by from content) ≡ []
others name from (Command command) is =
    let noted : Noted = record { party = Peer from; event = Submit command } in ap (λ test. cond test (noted ∷ []) []) is
others name from (Beginning day) is = refl
others name from (Asked operator event) is = refl
others name from (Numbers numbers) is = refl
others name from Wrapped is = refl
others name from Unclear is = refl
others name from Message is = refl

-- nor does an operator
no-operator : (name from : List ℕ) (content : Content) (received sent : Bool) → stands_by content received sent ≡ true → of_operator name (noted_by from content) ≡ []
no-operator name from (Command command) received sent is = refl
no-operator name from (Beginning day) received sent is = refl
no-operator name from (Asked operator event) received sent is = absurd (false≢true is)
no-operator name from (Numbers numbers) received sent is = refl
no-operator name from Wrapped received sent is = refl
no-operator name from Unclear received sent is = refl
no-operator name from Message received sent is = refl

-- what an operator asks is the operator's, and no peer's
pub asked : (name from : List ℕ) (content : Content) → IsAskedBy name content → of_operator name (noted_by from content) ≡ cons_option (noted_by from content) []
asked name from (Asked operator event) is =
    let noted : Noted = record { party = Operator operator; event = event } in
    ap (λ test. cond test (noted ∷ []) []) (ap (λ operator. same_text operator name) is ∙ same_text-refl name)
asked name from (Command command) is = absurd is
asked name from (Beginning day) is = absurd is
asked name from (Numbers numbers) is = absurd is
asked name from Wrapped is = absurd is
asked name from Unclear is = absurd is
asked name from Message is = absurd is

-- and no other operator's
asked-other : (name other from : List ℕ) (content : Content) → IsAskedBy name content → same_text name other ≡ false → of_operator other (noted_by from content) ≡ []
asked-other name other from (Asked operator event) is differ =
    let noted : Noted = record { party = Operator operator; event = event } in
    ap (λ test. cond test (noted ∷ []) []) (ap (λ operator. same_text operator other) is ∙ differ)
asked-other name other from (Command command) is differ = absurd is
asked-other name other from (Beginning day) is differ = absurd is
asked-other name other from (Numbers numbers) is differ = absurd is
asked-other name other from Wrapped is differ = absurd is
asked-other name other from Unclear is differ = absurd is
asked-other name other from Message is differ = absurd is

no-peer : (name peer from : List ℕ) (content : Content) → IsAskedBy name content → of_peer peer (noted_by from content) ≡ []
no-peer name peer from (Asked operator event) is = refl
no-peer name peer from (Command command) is = absurd is
no-peer name peer from (Beginning day) is = absurd is
no-peer name peer from (Numbers numbers) is = absurd is
no-peer name peer from Wrapped is = absurd is
no-peer name peer from Unclear is = absurd is
no-peer name peer from Message is = absurd is

-- ---- the numbers

expected-other : (peer : List ℕ) (expected : ℕ) (kept : Kept) (content : Content) → same_text kept.to peer ≡ false → same_text kept.from peer ≡ false
    → expected_by peer expected kept content ≡ expected
expected-other peer expected kept (Numbers numbers) to from = ap (λ test. if test then numbers.expected else expected) to
expected-other peer expected kept (Command command) to from = ap (λ test. if test then kept.number + 1 else expected) from
expected-other peer expected kept (Beginning day) to from = refl
expected-other peer expected kept (Asked operator event) to from = refl
expected-other peer expected kept Wrapped to from = refl
expected-other peer expected kept Unclear to from = refl
expected-other peer expected kept Message to from = refl

sent-other : (own peer : List ℕ) (next : ℕ) (kept : Kept) → same_text kept.to peer ≡ false → sent_after own peer next kept ≡ next
sent-other own peer next kept to =
    ap (λ test. if test then kept.number + 1 else next) (middle-false (same_text kept.from own) (same_text kept.to peer) (not kept.dup) to)

next-other : (own peer : List ℕ) (next : ℕ) (kept : Kept) (content : Content) → same_text kept.to peer ≡ false → next_by own peer next kept content ≡ next
next-other own peer next kept (Numbers numbers) to = ap (λ test. if test then numbers.next else next) to
next-other own peer next kept (Command command) to = sent-other own peer next kept to
next-other own peer next kept (Beginning day) to = refl
next-other own peer next kept (Asked operator event) to = refl
next-other own peer next kept Wrapped to = refl
next-other own peer next kept Unclear to = refl
next-other own peer next kept Message to = sent-other own peer next kept to

record-other : (peer : List ℕ) (last : ℕ) (kept : Kept) (content : Content) → same_text kept.to peer ≡ false → peer_record_by peer last kept content ≡ last
record-other peer last kept (Numbers numbers) to = ap (λ test. if test then kept.number else last) to
record-other peer last kept Wrapped to = ap (λ test. if test then kept.number else last) to
record-other peer last kept (Command command) to = refl
record-other peer last kept (Beginning day) to = refl
record-other peer last kept (Asked operator event) to = refl
record-other peer last kept Unclear to = refl
record-other peer last kept Message to = refl

either : (test : Bool) (a b most : ℕ) → a ≤ most → b ≤ most → (if test then a else b) ≤ most
either true a b most first second = first
either false a b most first second = second

record-low : (peer : List ℕ) (last most : ℕ) (kept : Kept) (content : Content) → kept.number ≤ most → last ≤ most → peer_record_by peer last kept content ≤ most
record-low peer last most kept (Numbers numbers) number low = either (same_text kept.to peer) kept.number last most number low
record-low peer last most kept Wrapped number low = either (same_text kept.to peer) kept.number last most number low
record-low peer last most kept (Command command) number low = low
record-low peer last most kept (Beginning day) number low = low
record-low peer last most kept (Asked operator event) number low = low
record-low peer last most kept Unclear number low = low
record-low peer last most kept Message number low = low

asked-expected : (name peer : List ℕ) (expected : ℕ) (kept : Kept) (content : Content) → IsAskedBy name content → expected_by peer expected kept content ≡ expected
asked-expected name peer expected kept (Asked operator event) is = refl
asked-expected name peer expected kept (Command command) is = absurd is
asked-expected name peer expected kept (Beginning day) is = absurd is
asked-expected name peer expected kept (Numbers numbers) is = absurd is
asked-expected name peer expected kept Wrapped is = absurd is
asked-expected name peer expected kept Unclear is = absurd is
asked-expected name peer expected kept Message is = absurd is

asked-next : (name own peer : List ℕ) (next : ℕ) (kept : Kept) (content : Content) → IsAskedBy name content → next_by own peer next kept content ≡ next
asked-next name own peer next kept (Asked operator event) is = refl
asked-next name own peer next kept (Command command) is = absurd is
asked-next name own peer next kept (Beginning day) is = absurd is
asked-next name own peer next kept (Numbers numbers) is = absurd is
asked-next name own peer next kept Wrapped is = absurd is
asked-next name own peer next kept Unclear is = absurd is
asked-next name own peer next kept Message is = absurd is

asked-record : (name peer : List ℕ) (last : ℕ) (kept : Kept) (content : Content) → IsAskedBy name content → peer_record_by peer last kept content ≡ last
asked-record name peer last kept (Asked operator event) is = refl
asked-record name peer last kept (Command command) is = absurd is
asked-record name peer last kept (Beginning day) is = absurd is
asked-record name peer last kept (Numbers numbers) is = absurd is
asked-record name peer last kept Wrapped is = absurd is
asked-record name peer last kept Unclear is = absurd is
asked-record name peer last kept Message is = absurd is

asked-own : (name : List ℕ) (last : ℕ) (kept : Kept) (content : Content) → IsAskedBy name content → operator_record_by name last kept content ≡ kept.number
asked-own name last kept (Asked operator event) is =
    ap (λ test. if test then kept.number else last) (ap (λ operator. same_text operator name) is ∙ same_text-refl name)
asked-own name last kept (Command command) is = absurd is
asked-own name last kept (Beginning day) is = absurd is
asked-own name last kept (Numbers numbers) is = absurd is
asked-own name last kept Wrapped is = absurd is
asked-own name last kept Unclear is = absurd is
asked-own name last kept Message is = absurd is

asked-others : (name other : List ℕ) (last : ℕ) (kept : Kept) (content : Content) → IsAskedBy name content → same_text name other ≡ false
    → operator_record_by other last kept content ≡ last
asked-others name other last kept (Asked operator event) is differ =
    ap (λ test. if test then kept.number else last) (ap (λ operator. same_text operator other) is ∙ differ)
asked-others name other last kept (Command command) is differ = absurd is
asked-others name other last kept (Beginning day) is differ = absurd is
asked-others name other last kept (Numbers numbers) is differ = absurd is
asked-others name other last kept Wrapped is differ = absurd is
asked-others name other last kept Unclear is differ = absurd is
asked-others name other last kept Message is differ = absurd is

not-asked : (name : List ℕ) (last : ℕ) (kept : Kept) (content : Content) (received sent : Bool) → stands_by content received sent ≡ true
    → operator_record_by name last kept content ≡ last
not-asked name last kept (Asked operator event) received sent is = absurd (false≢true is)
not-asked name last kept (Command command) received sent is = refl
not-asked name last kept (Beginning day) received sent is = refl
not-asked name last kept (Numbers numbers) received sent is = refl
not-asked name last kept Wrapped received sent is = refl
not-asked name last kept Unclear received sent is = refl
not-asked name last kept Message received sent is = refl

-- ---- the first frame

pub is-beginning : (from : List ℕ) (content : Content) (found : Begun) → begun_said from content ≡ Some found → (day : ℤ) × (content ≡ Beginning day)
is-beginning from (Beginning day) found is = (day, refl)
is-beginning from (Command command) found is = cc
is-beginning from (Asked operator event) found is = cc
is-beginning from (Numbers numbers) found is = cc
is-beginning from Wrapped found is = cc
is-beginning from Unclear found is = cc
is-beginning from Message found is = cc

-- ---- who a frame is from, and to whom

-- one of the two is the blotter
abbrev Ends : List ℕ → List ℕ → List ℕ → List ℕ → Type 0
Ends own peer from to = ((from ≡ peer) × (to ≡ own)) ⊎ ((from ≡ own) × (to ≡ peer))

ends-received : (own peer from to : List ℕ) → (same_text from peer && same_text to own) ≡ true → Ends own peer from to
ends-received own peer from to is =
    let both = and_parts (same_text from peer) (same_text to own) is in inl (same_text-true from peer both.0, same_text-true to own both.1)

ends-sent : (own peer from to : List ℕ) → (same_text from own && same_text to peer) ≡ true → Ends own peer from to
ends-sent own peer from to is =
    let both = and_parts (same_text from own) (same_text to peer) is in inr (same_text-true from own both.0, same_text-true to peer both.1)

ends-either : (own peer from to : List ℕ) (received sent : Bool) → (received ≡ true → Ends own peer from to) → (sent ≡ true → Ends own peer from to)
    → (received || sent) ≡ true → Ends own peer from to
ends-either own peer from to true sent first second is = first refl
ends-either own peer from to false sent first second is = second is

ends-by : (own peer from to : List ℕ) (content : Content)
    → stands_by content (same_text from peer && same_text to own) (same_text from own && same_text to peer) ≡ true → Ends own peer from to
ends-by own peer from to (Command command) is = ends-received own peer from to is
ends-by own peer from to (Numbers numbers) is = ends-sent own peer from to is
ends-by own peer from to Wrapped is = ends-sent own peer from to is
ends-by own peer from to Message is =
    ends-either own peer from to _ _ (ends-received own peer from to) (ends-sent own peer from to) is
ends-by own peer from to (Beginning day) is = absurd (false≢true is)
ends-by own peer from to (Asked operator event) is = absurd (false≢true is)
ends-by own peer from to Unclear is = absurd (false≢true is)

-- neither end is a third
from-other : (own peer from to other : List ℕ) → (other ≡ own → ⊥) → (other ≡ peer → ⊥) → Ends own peer from to → from ≡ other → ⊥
from-other own peer from to other no_own no_peer (inl ends) is = no_peer (sym is ∙ ends.0)
from-other own peer from to other no_own no_peer (inr ends) is = no_own (sym is ∙ ends.0)

to-other : (own peer from to other : List ℕ) → (other ≡ own → ⊥) → (other ≡ peer → ⊥) → Ends own peer from to → to ≡ other → ⊥
to-other own peer from to other no_own no_peer (inl ends) is = no_own (sym is ∙ ends.1)
to-other own peer from to other no_own no_peer (inr ends) is = no_peer (sym is ∙ ends.1)

-- ---- the receipts

submits-told : (receipts : List Receipt) → are_submits receipts ≡ list_all is_submit (events_told receipts)
submits-told [] = refl
submits-told (receipt ∷ receipts) = ap (λ rest. is_submit receipt.event && rest) (submits-told receipts)

submits-last : (before after : List Receipt) (noted : Option Noted) → events_told after ≡ with_event (events_told before) noted → are_submits before ≡ true
    → list_all is_submit (cons_option (event_noted noted) []) ≡ true → are_submits after ≡ true
submits-last before after noted told submits one =
    submits-told after ∙ ap (list_all is_submit) told ∙ list_all-append is_submit (events_told before) (cons_option (event_noted noted) [])
    ∙ and_from _ _ (sym (submits-told before) ∙ submits) one

-- ---- the parties

-- before the first frame
pub peer-first : {L : Type 0} (own : List ℕ) (peer : KeptPeer L) → peer.seat ≡ [] → peer.numbers ≡ first_numbers → IsInRange peer.numbers → peer.records ≡ 0
    → IsKeptPeer own [] peer
peer-first own peer none numbers range records = record {
  events = ap events_told none ∙ sym (brought-nil (is_peer peer.peer));
  submits = ap are_submits none;
  numbers_are = numbers ∙ ap (numbers_in own peer.peer) (sym frames_of-nil);
  range = range;
  records_are = records ∙ ap (λ frames. fold (peer_record_after peer.peer) 0 (kept_in frames)) (sym frames_of-nil);
  low = subst (λ n. n ≤ SEQUENCE_MAX) (sym records) (omega arith);
}

pub unheard-first : (name : List ℕ) → IsUnheard [] name
unheard-first name = record {
  events = brought-nil (is_operator name);
  records = ap (λ frames. fold (operator_record_after name) 0 (kept_in frames)) frames_of-nil;
}

-- of whom a text has nothing, that one is as it leaves the operator with a new seat
pub operator-comes : {L : Type 0} (text : List ℕ) (operator : KeptOperator L) → IsUnheard text operator.name → operator.seat ≡ [] → operator.records ≡ 0 → IsKeptOperator text operator
operator-comes text operator unheard none records = record {
  events = ap events_told none ∙ sym unheard.events;
  records_are = records ∙ sym unheard.records;
  low = subst (λ n. n ≤ SEQUENCE_MAX) (sym records) (omega arith);
}

module _ (text more : List ℕ) (kept : Kept) (last : KeepsLast text kept more) where
  -- a frame of a peer's
  pub peer-more : {L : Type 0} (own : List ℕ) (old new : KeptPeer L) → IsKept kept → stands_for own old.peer kept ≡ true → new.peer ≡ old.peer
      → new.numbers ≡ numbers_after own old.peer old.numbers kept → IsInRange new.numbers → new.records ≡ peer_record_after old.peer old.records kept
      → events_told new.seat ≡ with_event (events_told old.seat) (noted_of kept) → IsKeptPeer own text old → IsKeptPeer own more new
  peer-more own old new is stands name numbers range records told holds =
      let received = same_text kept.from old.peer && same_text kept.to own in
      let sent = same_text kept.from own && same_text kept.to old.peer in
      record {
        events = told ∙ ap (λ events. with_event events (noted_of kept)) holds.events
            ∙ sym (brought-theirs text more kept last (is_peer old.peer)
            (theirs old.peer kept.from kept.content received sent (λ is. (and_parts (same_text kept.from old.peer) (same_text kept.to own) is).0) stands))
            ∙ ap (λ (name : List ℕ). brought_by (is_peer name) more) (sym name);
        submits = submits-last old.seat new.seat (noted_of kept) told holds.submits (one-submit kept.from kept.content received sent stands);
        numbers_are = numbers ∙ ap (λ before. numbers_after own old.peer before kept) holds.numbers_are ∙ sym (numbers_of-last text more kept last own old.peer)
            ∙ ap (λ (name : List ℕ). numbers_of own name more) (sym name);
        range = range;
        records_are = records ∙ ap (λ before. peer_record_after old.peer before kept) holds.records_are ∙ sym (peer_records_of-last text more kept last old.peer)
            ∙ ap (λ (name : List ℕ). peer_records_of name more) (sym name);
        low = subst (λ n. n ≤ SEQUENCE_MAX) (sym records) (record-low old.peer old.records SEQUENCE_MAX kept kept.content is.number holds.low);
      }

  -- one that says nothing to a peer
  peer-stays : {L : Type 0} (own : List ℕ) (peer : KeptPeer L) → of_peer peer.peer (noted_of kept) ≡ [] → numbers_after own peer.peer peer.numbers kept ≡ peer.numbers
      → peer_record_after peer.peer peer.records kept ≡ peer.records → IsKeptPeer own text peer → IsKeptPeer own more peer
  peer-stays own peer none numbers records holds = record {
    events = holds.events ∙ sym (brought-others text more kept last (is_peer peer.peer) none);
    submits = holds.submits;
    numbers_are = sym numbers ∙ ap (λ before. numbers_after own peer.peer before kept) holds.numbers_are ∙ sym (numbers_of-last text more kept last own peer.peer);
    range = holds.range;
    records_are = sym records ∙ ap (λ before. peer_record_after peer.peer before kept) holds.records_are ∙ sym (peer_records_of-last text more kept last peer.peer);
    low = holds.low;
  }

  -- one of another's
  pub peer-other : {L : Type 0} (own name : List ℕ) (peer : KeptPeer L) → stands_for own name kept ≡ true → (peer.peer ≡ own → ⊥) → (peer.peer ≡ name → ⊥)
      → IsKeptPeer own text peer → IsKeptPeer own more peer
  peer-other own name peer stands no_own no_name holds =
      let ends = ends-by own name kept.from kept.to kept.content stands in
      let from = not_same kept.from peer.peer (from-other own name kept.from kept.to peer.peer no_own no_name ends) in
      let to = not_same kept.to peer.peer (to-other own name kept.from kept.to peer.peer no_own no_name ends) in
      let expected = expected-other peer.peer peer.numbers.expected kept kept.content to from in
      let next = next-other own peer.peer peer.numbers.next kept kept.content to in
      peer-stays own peer (others peer.peer kept.from kept.content from) (λ i. record { expected = expected i; next = next i })
      (record-other peer.peer peer.records kept kept.content to) holds

  -- an operator's event
  pub peer-asked : {L : Type 0} (own name : List ℕ) (peer : KeptPeer L) → IsAskedBy name kept.content → IsKeptPeer own text peer → IsKeptPeer own more peer
  peer-asked own name peer is holds =
      let expected = asked-expected name peer.peer peer.numbers.expected kept kept.content is in
      let next = asked-next name own peer.peer peer.numbers.next kept kept.content is in
      peer-stays own peer (no-peer name peer.peer kept.from kept.content is) (λ i. record { expected = expected i; next = next i })
      (asked-record name peer.peer peer.records kept kept.content is) holds

  pub operator-more : {L : Type 0} (old new : KeptOperator L) → IsKept kept → IsAskedBy old.name kept.content → new.name ≡ old.name → new.records ≡ kept.number
      → events_told new.seat ≡ with_event (events_told old.seat) (noted_of kept) → IsKeptOperator text old → IsKeptOperator more new
  operator-more old new is by name records told holds = record {
    events = told ∙ ap (λ events. with_event events (noted_of kept)) holds.events
        ∙ sym (brought-theirs text more kept last (is_operator old.name) (asked old.name kept.from kept.content by))
        ∙ ap (λ (name : List ℕ). brought_by (is_operator name) more) (sym name);
    records_are = records ∙ sym (asked-own old.name (operator_records_of old.name text) kept kept.content by)
        ∙ sym (operator_records_of-last text more kept last old.name)
        ∙ ap (λ (name : List ℕ). operator_records_of name more) (sym name);
    low = subst (λ n. n ≤ SEQUENCE_MAX) (sym records) is.number;
  }

  -- the first frame
  pub peer-begun : {L : Type 0} (own : List ℕ) (peer : KeptPeer L) (found : Begun) → begun_by kept ≡ Some found → IsKeptPeer own text peer → IsKeptPeer own more peer
  peer-begun own peer found begun holds =
      let is = is-beginning kept.from kept.content found begun in
      let expected = ap (λ content. expected_by peer.peer peer.numbers.expected kept content) is.1 in
      let next = ap (λ content. next_by own peer.peer peer.numbers.next kept content) is.1 in
      peer-stays own peer (ap (λ content. of_peer peer.peer (noted_by kept.from content)) is.1) (λ i. record { expected = expected i; next = next i })
      (ap (λ content. peer_record_by peer.peer peer.records kept content) is.1) holds

  -- a frame that says nothing of an operator
  operator-stays : {L : Type 0} (operator : KeptOperator L) → of_operator operator.name (noted_of kept) ≡ []
      → operator_record_after operator.name (operator_records_of operator.name text) kept ≡ operator_records_of operator.name text
      → IsKeptOperator text operator → IsKeptOperator more operator
  operator-stays operator none same holds = record {
    events = holds.events ∙ sym (brought-others text more kept last (is_operator operator.name) none);
    records_are = holds.records_are ∙ sym same ∙ sym (operator_records_of-last text more kept last operator.name);
    low = holds.low;
  }

  unheard-stays : (name : List ℕ) → of_operator name (noted_of kept) ≡ []
      → operator_record_after name (operator_records_of name text) kept ≡ operator_records_of name text → IsUnheard text name → IsUnheard more name
  unheard-stays name none same holds = record {
    events = brought-others text more kept last (is_operator name) none ∙ holds.events;
    records = operator_records_of-last text more kept last name ∙ same ∙ holds.records;
  }

  pub operator-begun : {L : Type 0} (operator : KeptOperator L) (found : Begun) → begun_by kept ≡ Some found → IsKeptOperator text operator → IsKeptOperator more operator
  operator-begun operator found begun =
      let is = is-beginning kept.from kept.content found begun in
      operator-stays operator (ap (λ content. of_operator operator.name (noted_by kept.from content)) is.1)
      (ap (λ content. operator_record_by operator.name (operator_records_of operator.name text) kept content) is.1)

  pub unheard-begun : (name : List ℕ) (found : Begun) → begun_by kept ≡ Some found → IsUnheard text name → IsUnheard more name
  unheard-begun name found begun =
      let is = is-beginning kept.from kept.content found begun in
      unheard-stays name (ap (λ content. of_operator name (noted_by kept.from content)) is.1)
      (ap (λ content. operator_record_by name (operator_records_of name text) kept content) is.1)

  -- a peer's frame
  pub operator-other : {L : Type 0} (own name : List ℕ) (operator : KeptOperator L) → stands_for own name kept ≡ true
      → IsKeptOperator text operator → IsKeptOperator more operator
  operator-other own name operator stands =
      let received = same_text kept.from name && same_text kept.to own in
      let sent = same_text kept.from own && same_text kept.to name in
      operator-stays operator (no-operator operator.name kept.from kept.content received sent stands)
      (not-asked operator.name (operator_records_of operator.name text) kept kept.content received sent stands)

  pub unheard-other : (own name other : List ℕ) → stands_for own name kept ≡ true → IsUnheard text other → IsUnheard more other
  unheard-other own name other stands =
      let received = same_text kept.from name && same_text kept.to own in
      let sent = same_text kept.from own && same_text kept.to name in
      unheard-stays other (no-operator other kept.from kept.content received sent stands)
      (not-asked other (operator_records_of other text) kept kept.content received sent stands)

  -- another operator's event
  pub operator-asked : {L : Type 0} (name : List ℕ) (operator : KeptOperator L) → IsAskedBy name kept.content → same_text name operator.name ≡ false
      → IsKeptOperator text operator → IsKeptOperator more operator
  operator-asked name operator is differ =
      operator-stays operator (asked-other name operator.name kept.from kept.content is differ)
      (asked-others name operator.name (operator_records_of operator.name text) kept kept.content is differ)

  pub unheard-asked : (name other : List ℕ) → IsAskedBy name kept.content → same_text name other ≡ false → IsUnheard text other → IsUnheard more other
  unheard-asked name other is differ =
      unheard-stays other (asked-other name other kept.from kept.content is differ)
      (asked-others name other (operator_records_of other text) kept kept.content is differ)
