-- Frames of a journal, and texts of them, computed.
use Rattle.std.proofs.Common.{◌≡◌, ap, ◌∙◌, Bool, ℕ, ℤ, ◌*◌, ◌^◌, List, [], ◌∷◌, ◌++◌, true, false, Some, None, refl, codes, fold, slice_get, slice_range, map, pos, ◌==◌, if◌then◌else◌, filter_map, option_and_then}
use Rattle.std.specs.Fmt.{digits}
use Rattle.std.specs.List.{concat}
use Rattle.blot_decimal.specs.Meaning.{size_of, qty_of, price_of}
use Rattle.blot_decimal.specs.Text.{are_parts}
use Rattle.blot_time.specs.Calendar.{day_number}
use Rattle.blot_time.specs.Clock.{clock_of, fraction_of}
use Rattle.blot_time.specs.Day.{civil_day, day_of, day_text}
use Rattle.blot_time.specs.Moment.{moment_of, moment_text}
use Rattle.blot_tag.specs.Bytes.{tag_number}
use Rattle.blot_tag.specs.Fields.{fields_of, items_behind, first_items, first_field, data_value}
use Rattle.blot_tag.specs.Looking as looking
use Rattle.blot_tag.specs.Walking.{frames_of, walk_behind}
use Rattle.blot_tag.specs.Writing.{frame_of}
use Rattle.blot_types.specs.declared.{command.Command.Command, fill.Sign.TheVariants.Buy, keys.ExecKey.ExecKey}
use Rattle.blot_types.specs.declared.command.Command.TheVariants.{Trade, Bust, AllocNew}
use Rattle.blot_fields.specs.Decoding.{decoded}
use Rattle.blot_fields.specs.Forms.{text_form, number_form, moment_form, flag_form, zero_form, any_form, qty_form, positive_form, price_form, side_form, day_form}
use Rattle.blot_fields.specs.Kinds as fields
use Rattle.blot_fields.specs.Kinds.{exec_type_of}
use Rattle.blot_fields.specs.Messages.{head_of, logon_of, report_of, trade_of, bust_of, execution_of, order_size_of, size_part}
use Rattle.blot_fields.specs.Rows.{needed, only, optional, there, has}
use Rattle.blot_fields.specs.Walk.{field_wrong}
use Rattle.blot_desk.specs.declared.event.Event.{Event}
use Rattle.blot_desk.specs.declared.event.Event.TheVariants.{Submit, Undo}
use Rattle.blot_console.specs.Allocate.{allocate_line, execs_counted, execs_of, line_of, lines_of}
use Rattle.blot_console.specs.Forms as console_forms
use Rattle.blot_console.specs.Lines.{undo_line, order_line}
use Rattle.blot_console.specs.Parsing as console
use Rattle.blot_console.specs.Rows.{counted, value_at}
use Rattle.blot_diary.specs.declared.{kept.Content.Content, kept.Kept.Kept, kept.Noted.Noted, numbers.SequenceNumbers.SequenceNumbers}
use Rattle.blot_diary.specs.declared.kept.Content.TheVariants as contents
use Rattle.blot_diary.specs.declared.kept.Party.TheVariants.{Peer, Operator}
use Rattle.blot_diary.specs.Beginnings.{beginning_of, begun_by}
use Rattle.blot_diary.specs.Diary.{desk_events}
use Rattle.blot_diary.specs.Events.{events_in, events_of, keeps_message, noted_of}
use Rattle.blot_diary.specs.Keeping.{kept_in, kept_of}
use Rattle.blot_diary.specs.Kinds.{kind_of}
use Rattle.blot_diary.specs.Numbering.{first_numbers, numbers_after, numbers_in, numbers_of}
use Rattle.blot_diary.specs.Own.{next_form}
use Rattle.blot_diary.specs.Records.{asked_message, beginning_message, numbers_message, wrapped_message}

-- a text with SOH for each bar
abbrev barred : List ℕ → List ℕ
barred text = map (λ byte. if byte == 124 then 1 else byte) text

abbrev begun : List ℕ
begun = barred (codes "8=FIX.4.4|9=60|35=UD|49=MO|56=MO|34=1|52=20240105-10:00:00.000|75=20240105|10=138|")

abbrev logon : List ℕ
logon = barred (codes "8=FIX.4.4|9=61|35=A|49=BRKA|56=MO|34=1|52=20240105-10:00:00.000|98=0|108=30|10=152|")

abbrev logon_sent : List ℕ
logon_sent = barred (codes "8=FIX.4.4|9=61|35=A|49=MO|56=BRKA|34=1|52=20240105-10:00:00.000|98=0|108=30|10=152|")

abbrev logon_numbers : List ℕ
logon_numbers = barred (codes "8=FIX.4.4|9=61|35=UN|49=MO|56=BRKA|34=1|52=20240105-10:00:00.000|789=2|36=2|10=210|")

abbrev trade : List ℕ
trade = barred (codes "8=FIX.4.4|9=140|35=8|49=BRKA|56=MO|34=2|52=20240105-10:00:00.000|37=O1|17=E1|150=F|39=1|55=XYZ|54=1|38=300|32=100|31=10.5|14=100|151=200|6=10.5|75=20240105|10=074|")

abbrev early : List ℕ
early = barred (codes "8=FIX.4.4|9=224|35=UR|49=MO|56=BRKA|34=2|52=20240105-10:00:00.000|95=163|96=8=FIX.4.4|9=140|35=8|49=BRKA|56=MO|34=4|52=20240105-10:00:00.000|37=O1|17=E2|150=F|39=1|55=XYZ|54=1|38=300|32=100|31=10.5|14=100|151=200|6=10.5|75=20240105|10=077||10=148|")

abbrev bust : List ℕ
bust = barred (codes "8=FIX.4.4|9=67|35=8|49=BRKA|56=MO|34=3|52=20240105-10:00:00.000|17=E3|19=E1|150=H|10=214|")

abbrev allocate : List ℕ
allocate = barred (codes "8=FIX.4.4|9=108|35=UL|49=MO|56=MO|50=desk|34=1|52=20240105-10:00:00.000|58=allocate\tBRKA\tAL1\tXYZ\tB\t20240105\t10.5\t1\tE1\tA\t100|10=023|")

abbrev undo : List ℕ
undo = barred (codes "8=FIX.4.4|9=66|35=UL|49=MO|56=MO|50=desk|34=2|52=20240105-10:00:00.000|58=undo\t2|10=071|")

abbrev asks : List ℕ
asks = barred (codes "8=FIX.4.4|9=73|35=UL|49=MO|56=MO|50=desk|34=3|52=20240105-10:00:00.000|58=order\tBRKA\tO1|10=035|")

abbrev acknowledgement : List ℕ
acknowledgement = barred (codes "8=FIX.4.4|9=61|35=P|49=MO|56=BRKA|34=2|52=20240105-10:00:00.000|70=AL2|87=0|10=208|")

abbrev again : List ℕ
again = barred (codes "8=FIX.4.4|9=92|35=P|49=MO|56=BRKA|34=2|43=Y|52=20240105-10:00:00.000|122=20240105-10:00:00.000|70=AL2|87=0|10=179|")

abbrev BRKA : List ℕ
BRKA = codes "BRKA"

abbrev MO : List ℕ
MO = codes "MO"

-- a frame that isn't sent again
abbrev keeps : List ℕ → List ℕ → ℕ → Content → Kept
keeps from to number content = record { from = from; to = to; number = number; dup = false; content = content }

-- an execution of BRKA
abbrev exec : List ℕ → ExecKey
exec id = record { peer = BRKA; id = id }

abbrev friday : ℤ
friday = day_number 2024 1 5

-- 100 of 300 XYZ at 10.5
abbrev E1 : Command
E1 = Trade (record {
  key = exec (codes "E1");
  fill = record {
    order = record { peer = BRKA; id = codes "O1" };
    account = None;
    symbol = codes "XYZ";
    sign = Buy;
    size = pos (300 * 10 ^ 6);
    qty = 100 * 10 ^ 6;
    price = pos (1050 * 10 ^ 6);
    day = friday;
  };
})

abbrev E3 : Command
E3 = Bust (record { key = exec (codes "E3"); reference = exec (codes "E1") })

abbrev AL1 : Command
AL1 = AllocNew (record {
  key = record { peer = BRKA; id = codes "AL1" };
  terms = record {
    symbol = codes "XYZ";
    sign = Buy;
    day = friday;
    block = 100 * 10 ^ 6;
    execs = exec (codes "E1") ∷ [];
    lines = record { account = codes "A"; qty = 100 * 10 ^ 6; price = pos (1050 * 10 ^ 6) } ∷ [];
  };
})

-- ---- texts: the Logon is durable; so is the Trade; and a longer day, where an early Trade counts for nothing, an operator books, asks and undoes, a
-- bust comes, and an acknowledgement is sent twice

abbrev logons : List (List ℕ)
logons = begun ∷ logon ∷ logon_sent ∷ logon_numbers ∷ []

abbrev traded : List (List ℕ)
traded = begun ∷ logon ∷ logon_sent ∷ logon_numbers ∷ trade ∷ []

abbrev longer : List (List ℕ)
longer = begun ∷ logon ∷ logon_sent ∷ logon_numbers ∷ trade ∷ early ∷ allocate ∷ asks ∷ bust ∷ acknowledgement ∷ again ∷ undo ∷ []

-- what they keep
abbrev kept_logons : List Kept
kept_logons =
    keeps MO MO 1 (contents.Beginning friday)
    ∷ keeps BRKA MO 1 contents.Message
    ∷ keeps MO BRKA 1 contents.Message
    ∷ keeps MO BRKA 1 (contents.Numbers (record { expected = 2; next = 2 }))
    ∷ []

abbrev kept_traded : List Kept
kept_traded = kept_logons ++ keeps BRKA MO 2 (contents.Command E1) ∷ []

abbrev kept_longer : List Kept
kept_longer =
    kept_traded
    ++ keeps MO BRKA 2 contents.Wrapped
    ∷ keeps MO MO 1 (contents.Asked (codes "desk") (Submit AL1))
    ∷ keeps MO MO 3 contents.Unclear
    ∷ keeps BRKA MO 3 (contents.Command E3)
    ∷ keeps MO BRKA 2 contents.Message
    ∷ record { from = MO; to = BRKA; number = 2; dup = true; content = contents.Message }
    ∷ keeps MO MO 2 (contents.Asked (codes "desk") (Undo 2))
    ∷ []

are_frames : (frames_of (concat logons) ≡ logons) × (frames_of (concat traded) ≡ traded) × (frames_of (concat longer) ≡ longer)
unfolding walk_behind looking.look_of looking.length_look looking.body_look looking.trailer_look looking.size_of looking.open_size looking.whole_size looking.longer_size looking.behind
are_frames = (refl, refl, refl)

are_kept : (kept_in logons ≡ kept_logons) × (kept_in traded ≡ kept_traded) × (kept_in longer ≡ kept_longer)
unfolding kept_of kind_of next_form decoded head_of needed only optional there has field_wrong text_form number_form moment_form flag_form zero_form any_form qty_form positive_form price_form side_form day_form fields.kind_of exec_type_of logon_of report_of trade_of bust_of execution_of order_size_of size_part moment_of clock_of fraction_of day_of civil_day qty_of price_of size_of are_parts items_behind first_items first_field tag_number data_value console.parsed console.ask_of console.words_line console.kind_of undo_line order_line allocate_line execs_counted execs_of line_of lines_of counted value_at console_forms.number_form console_forms.count_form console_forms.text_form console_forms.sign_form console_forms.day_form console_forms.price_form console_forms.qty_form
are_kept = (refl, refl, refl)

-- which of them keep a message alone: the Logon and its answer, and the acknowledgement, both times
messages_alone : map keeps_message longer ≡ false ∷ true ∷ true ∷ false ∷ false ∷ false ∷ false ∷ false ∷ false ∷ true ∷ true ∷ false ∷ []
unfolding kept_of kind_of next_form decoded head_of needed only optional there has field_wrong text_form number_form moment_form flag_form zero_form any_form qty_form positive_form price_form side_form day_form fields.kind_of exec_type_of logon_of report_of trade_of bust_of execution_of order_size_of size_part moment_of clock_of fraction_of day_of civil_day qty_of price_of size_of are_parts items_behind first_items first_field tag_number data_value console.parsed console.ask_of console.words_line console.kind_of undo_line order_line allocate_line execs_counted execs_of line_of lines_of counted value_at console_forms.number_form console_forms.count_form console_forms.text_form console_forms.sign_form console_forms.day_form console_forms.price_form console_forms.qty_form
messages_alone = refl

-- ---- the two folds over them, from their bytes

abbrev by_broker : Command → Noted
by_broker command = record { party = Peer BRKA; event = Submit command }

abbrev by_desk : Event → Noted
by_desk event = record { party = Operator (codes "desk"); event = event }

begins : beginning_of (concat longer) ≡ Some (record { own = MO; day = friday })
unfolding kept_of kind_of next_form decoded head_of needed only optional there has field_wrong text_form number_form moment_form flag_form zero_form any_form qty_form positive_form price_form side_form day_form fields.kind_of exec_type_of logon_of report_of trade_of bust_of execution_of order_size_of size_part moment_of clock_of fraction_of day_of civil_day qty_of price_of size_of are_parts items_behind first_items first_field tag_number data_value
begins = ap (λ frames. option_and_then begun_by (option_and_then (λ frame. kept_of (fields_of frame)) (slice_get frames 0))) are_frames.2

-- what a text's frames keep decides its events, and the numbers of a peer
events_by : (frames : List (List ℕ)) (kept : List Kept) → frames_of (concat frames) ≡ frames → kept_in frames ≡ kept → events_of (concat frames) ≡ filter_map noted_of kept
events_by frames kept are keep = ap events_in are ∙ ap (filter_map noted_of) keep

numbers_by : (peer : List ℕ) (frames : List (List ℕ)) (kept : List Kept) → frames_of (concat frames) ≡ frames → kept_in frames ≡ kept
    → numbers_of MO peer (concat frames) ≡ fold (numbers_after MO peer) first_numbers kept
numbers_by peer frames kept are keep = ap (numbers_in MO peer) are ∙ ap (fold (numbers_after MO peer) first_numbers) keep

logons_events : events_of (concat logons) ≡ []
logons_events = events_by logons kept_logons are_frames.0 are_kept.0

logons_numbers : numbers_of MO BRKA (concat logons) ≡ record { expected = 2; next = 2 }
logons_numbers = numbers_by BRKA logons kept_logons are_frames.0 are_kept.0

traded_events : events_of (concat traded) ≡ by_broker E1 ∷ []
traded_events = events_by traded kept_traded are_frames.1 are_kept.1

without_party : desk_events (concat traded) ≡ Submit E1 ∷ []
unfolding walk_behind looking.look_of looking.length_look looking.body_look looking.trailer_look looking.size_of looking.open_size looking.whole_size looking.longer_size looking.behind kept_of kind_of next_form decoded head_of needed only optional there has field_wrong text_form number_form moment_form flag_form zero_form any_form qty_form positive_form price_form side_form day_form fields.kind_of exec_type_of logon_of report_of trade_of execution_of order_size_of size_part moment_of clock_of fraction_of day_of civil_day qty_of price_of size_of are_parts items_behind first_items first_field tag_number data_value
without_party = refl

traded_numbers : numbers_of MO BRKA (concat traded) ≡ record { expected = 3; next = 2 }
traded_numbers = numbers_by BRKA traded kept_traded are_frames.1 are_kept.1

longer_events : events_of (concat longer) ≡ by_broker E1 ∷ by_desk (Submit AL1) ∷ by_broker E3 ∷ by_desk (Undo 2) ∷ []
longer_events = events_by longer kept_longer are_frames.2 are_kept.2

longer_numbers : numbers_of MO BRKA (concat longer) ≡ record { expected = 4; next = 3 }
longer_numbers = numbers_by BRKA longer kept_longer are_frames.2 are_kept.2

-- another peer's numbers are as they began
others_numbers : numbers_of MO (codes "BRKB") (concat longer) ≡ record { expected = 1; next = 1 }
others_numbers = numbers_by (codes "BRKB") longer kept_longer are_frames.2 are_kept.2

-- ---- single frames, behind numbers of 2 and 2

abbrev after : Bool → ℕ → Content → SequenceNumbers
after dup number content = numbers_after MO BRKA (record { expected = 2; next = 2 }) (record { from = MO; to = BRKA; number = number; dup = dup; content = content })

sends_once : after false 7 contents.Message ≡ record { expected = 2; next = 8 }
sends_once = refl

sends_again : after true 7 contents.Message ≡ record { expected = 2; next = 2 }
sends_again = refl

says_numbers : after false 7 (contents.Numbers (record { expected = 5; next = 4 })) ≡ record { expected = 5; next = 4 }
says_numbers = refl

wraps : after false 7 contents.Wrapped ≡ record { expected = 2; next = 2 }
wraps = refl

-- ---- the journal's own frames, made of what they say

module _ (now : ℤ) (sent : moment_text now ≡ codes "20240105-10:00:00.000") where
  makes_beginning : day_text friday ≡ codes "20240105" → frame_of (beginning_message MO friday now) ≡ begun
  unfolding digits
  makes_beginning day = rw (sent, day) refl

  makes_numbers : frame_of (numbers_message MO BRKA 1 now (record { expected = 2; next = 2 })) ≡ logon_numbers
  unfolding digits
  makes_numbers = rw sent refl

  makes_line : frame_of (asked_message MO (codes "desk") 2 now (codes "undo\t2")) ≡ undo
  unfolding digits
  makes_line = rw sent refl

  makes_wrapped : frame_of (wrapped_message MO BRKA 2 now (slice_range early 76 239)) ≡ early
  unfolding digits
  makes_wrapped = rw sent refl
