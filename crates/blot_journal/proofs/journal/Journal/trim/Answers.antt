use Rattle.std.proofs.Common.{ap, ◌∙◌}
use Rattle.blot_journal.proofs.journal.Journal.trim.Goals as goal

pub invariant_of-self-2 : goal.invariant_of-self-2
invariant_of-self-2 g c =
    let was = c.self.invariant (ap (λ k. k.is_broken) c.self.view_is ∙ c.requires.unbroken) in
    λ whole. record { head = c.in_ok-trim.ensures.head; durable = c.in_ok-trim.ensures.durable; fits = was.fits; few = was.few }
