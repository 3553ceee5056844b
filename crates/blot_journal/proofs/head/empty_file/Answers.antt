use Rattle.std.proofs.Common.{List, ℕ, ◌++◌, refl, ap, ◌∙◌}
use Rattle.blot_journal.specs.File.{signature}
use Rattle.blot_journal.proofs.HeadLemmas.{empty_stands}
use Rattle.blot_journal.proofs.head.empty_file.Goals as goal

pub returns : goal.returns
returns c =
    let rest = c.deref.result.now in
    empty_stands c.in_ok-file.file.items signature rest c.extend_from_slice-2.new.self.items c.in_ok-file.ensures.items refl (c.deref.ensures.value ∙ c.in_ok-rest.ensures.items)
    (c.in_ok-extend_from_slice-2.ensures.items ∙ ap (λ (l : List ℕ). l ++ rest) c.in_ok-extend_from_slice.ensures.items)
