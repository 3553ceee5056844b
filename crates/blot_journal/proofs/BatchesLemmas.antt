-- What a run of batches comes to.
use Rattle.std.proofs.Common.{◌≡◌, ℕ, zero, suc, ◌+◌, ◌<◌, ◌≤◌, ⊎_elim, List, [], ◌∷◌, ◌++◌, length, take, refl, get_or, sym, ◌∙◌, ap, subst, arith, append_assoc, append-nil, take_all, Bor}
use Rattle.std.proofs.lemmas.List.{length-map}
use Rattle.std.specs.List.{concat}
use Rattle.blot_journal.specs.File.{Stands, StandsBeforeOrAfter}
use Rattle.blot_journal.specs.Journal.{StandsAmong, contents}

-- the bytes of one batch more
more : (batches : List (Bor (List ℕ))) (i : ℕ) (d : Bor (List ℕ)) → i < length batches
    → concat (take (i + 1) (contents batches)) ≡ concat (take i (contents batches)) ++ (get_or batches i d).now
more [] i d within = absurd (omega (arith, within))
more (batch ∷ batches) zero d within = append-nil batch.now
more (batch ∷ batches) (suc i) d within =
    let on : suc i + 1 ≡ suc (i + 1) = omega arith in
    ap (λ (n : ℕ). concat (take n (contents (batch ∷ batches)))) on ∙ ap (λ (l : List ℕ). batch.now ++ l) (more batches i d (omega (arith, within)))
    ∙ sym (append_assoc batch.now (concat (take i (contents batches))) (get_or batches i d).now)

module _ (text : List ℕ) (batches : List (Bor (List ℕ))) where
  pub next_text : (i : ℕ) (d : Bor (List ℕ)) → i < length batches → (now next : List ℕ) → now ≡ text ++ concat (take i (contents batches)) → next ≡ now ++ (get_or batches i d).now
      → next ≡ text ++ concat (take (i + 1) (contents batches))
  next_text i d within now next is on =
      on ∙ ap (λ (l : List ℕ). l ++ (get_or batches i d).now) is ∙ append_assoc text (concat (take i (contents batches))) (get_or batches i d).now ∙ ap (λ (l : List ℕ). text ++ l) (sym (more batches i d within))

  -- a file that stands for the text with some of them
  pub among : (i : ℕ) (now : List ℕ) → i ≤ length batches → now ≡ text ++ concat (take i (contents batches)) → (file : List ℕ) → Stands now file → StandsAmong text (contents batches) i file
  among i now within is file stands = record {
    count = i;
    enough = omega arith;
    few = omega (arith, within, length-map batches (λ batch. batch.now));
    stands = subst (λ (l : List ℕ). Stands l file) is stands;
  }

  pub fewer : (least most : ℕ) (file : List ℕ) → least ≤ most → StandsAmong text (contents batches) most file → StandsAmong text (contents batches) least file
  fewer least most file less stands = record { count = stands.count; enough = omega (arith, less, stands.enough); few = stands.few; stands = stands.stands }

  -- while one is made durable
  pub meanwhile : (i : ℕ) (d : Bor (List ℕ)) → i < length batches → (now : List ℕ) → now ≡ text ++ concat (take i (contents batches)) → (file : List ℕ)
      → StandsBeforeOrAfter now (get_or batches i d).now file → StandsAmong text (contents batches) i file
  meanwhile i d within now is file stands =
      ⊎_elim
      (among i now (omega (arith, within)) is file)
      (λ after. fewer i (i + 1) file (omega arith) (among (i + 1) (now ++ (get_or batches i d).now) (omega (arith, within)) (next_text i d within now _ is refl) file after))
      stands

  -- all of them
  pub all_text : (i : ℕ) (now : List ℕ) → i ≤ length batches → length batches ≤ i → now ≡ text ++ concat (take i (contents batches)) → now ≡ text ++ concat (contents batches)
  all_text i now few many is =
      is ∙ ap (λ (l : List (List ℕ)). text ++ concat l) (take_all i (contents batches) (omega (arith, many, length-map batches (λ batch. batch.now))))
