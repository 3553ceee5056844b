-- The rows of positions, from the parts that were added.
use Rattle.std.proofs.Common.{◌≡◌, ◌+◌, arith, List, [], ◌∷◌, ◌++◌, length, Option, refl, sym, ap, subst, filter_map, option_map}
use Rattle.std.specs.FinMap as finite
use Rattle.std.specs.List.{cons_option}
use Rattle.std.proofs.lemmas.Int.{ints}
use Rattle.blot_types.specs.declared.{part.Part.Part, keys.PositionKey.PositionKey}
use Rattle.blot_types.specs.Bounds.{BOOK_PARTS, BOOK_QTY}
use Rattle.blot_types.specs.Order.{total}
use Rattle.blot_types.proofs.SumLemmas.{total-append, total-cons}
use Rattle.blot_position.specs.Positions.{Cells, sums_at, with_part}
use Rattle.blot_position.specs.Sums.{HasRoom}
use Rattle.blot_position.specs.Carried.{Carries}
use Rattle.blot_position.proofs.CarryLemmas.{more, SameWhole, Carries-same, Carries-put, Light, Light-same, has-room}
use Rattle.blot_command.proofs.HouseLemmas.{Light-weaker}
use Rattle.blot_command.proofs.PositionLineLemmas.{line-carried, carries-nothing}
use Rattle.blot_command.proofs.ReachLemmas.{sizes}
use Rattle.blot_command.proofs.WeightLemmas.{Light-list}
use Rattle.blot_report.specs.Lines.{position_row}
use Rattle.blot_report.specs.Sums.{MadeOf, ShowsParts, cell_row, cell_rows}
use Rattle.blot_report.proofs.KeyLemmas.{cells-more, cells-none}
use Rattle.blot_report.proofs.WeightLemmas.{IsLight}

-- ---- parts added

-- one part more
one-more : (done : List Part) (part : Part) → SameWhole (λ f. total f (done ++ part ∷ [])) (more part (λ f. total f done))
one-more done part f =
    let one = total-cons f part [] in
    let both = total-append f done (part ∷ []) in
    omega (arith, ints, one, both)

pub light-whole : (parts : List Part) → IsLight parts → Light (BOOK_PARTS + 1) BOOK_QTY (λ f. total f parts)
light-whole parts light =
    let few = light.few in
    let limit = light.light in
    Light-weaker (λ f. total f parts) (length parts) (BOOK_PARTS + 1) (sizes parts) BOOK_QTY (omega (arith, few)) (omega (arith, limit)) (Light-list parts light.small)

-- there is room for it where all are light
pub room-more : (done : List Part) (part : Part) (cells : Cells) → IsLight (done ++ part ∷ []) → MadeOf done cells → HasRoom (sums_at cells part.account part.symbol) part.qty part.value
room-more done part cells light made =
    let heavier : Light (BOOK_PARTS + 1) BOOK_QTY (more part (λ f. total f done)) =
    Light-same (λ f. total f (done ++ part ∷ [])) (more part (λ f. total f done)) (BOOK_PARTS + 1) BOOK_QTY (one-more done part) (light-whole (done ++ part ∷ []) light) in
    has-room part (λ f. total f done) cells BOOK_PARTS BOOK_QTY made.sums heavier (record { count_fits = omega arith; qty_fits = omega arith })

pub made-more : (done : List Part) (part : Part) (cells : Cells) → MadeOf done cells → MadeOf (done ++ part ∷ []) (with_part part.account part.symbol part.qty part.value cells)
made-more done part cells made = record {
  sums = Carries-same (more part (λ f. total f done)) (λ f. total f (done ++ part ∷ [])) (with_part part.account part.symbol part.qty part.value cells)
      (λ f. sym (one-more done part f)) (Carries-put part (λ f. total f done) cells made.sums);
  cells = cells-more cells done part made.cells;
}

pub made-none : (cells : Cells) → cells ≡ finite.empty → MadeOf [] cells
made-none cells empty = record { sums = subst (λ c. Carries (λ f. total f []) c) (sym empty) carries-nothing; cells = cells-none cells empty }

-- ---- rows

mapped-same : {A B : Type 0} (f g : A → Option B) (xs : List A) → ((x : A) → f x ≡ g x) → filter_map f xs ≡ filter_map g xs
mapped-same f g [] same = refl
mapped-same f g (x ∷ xs) same = λ i. cons_option (same x i) (mapped-same f g xs same i)

pub shows-made : (parts : List Part) (cells : Cells) → MadeOf parts cells → ShowsParts parts cells
shows-made parts cells made = record { lines = λ a s. line-carried parts cells a s made.sums; cells = made.cells }

pub rows-shown : (parts : List Part) (cells : Cells) (keys : List PositionKey) → ShowsParts parts cells → cell_rows cells keys ≡ filter_map (position_row parts) keys
rows-shown parts cells keys shows =
    mapped-same (cell_row cells) (position_row parts) keys
    (λ key. ap (option_map (λ line. record { position = key; line = line })) (shows.lines key.account key.symbol))
