use Rattle.std.proofs.Common.{refl, inr}
use Rattle.blot_session.specs.Runs.{behind_calls}
use Rattle.blot_gateway.proofs.KeptNumbersLemmas.{keeps_all_numbers}
use Rattle.blot_gateway.proofs.parties.Parties.serve_until.Goals as goal

pub returns-in-None-clause-served : goal.returns-in-None-clause-served
returns-in-None-clause-served g c =
    inr (
      c.in-None.ensures.ended refl,
      record {
        between = c.serve_watched.new.self;
        left = c.serve_watched.new.reader.unread;
        goes_on = c.in-None.ensures.goes_on refl;
        said = c.say_goodbye.ensures.said;
      },
    )

pub returns-in-Some-clause-numbers : goal.returns-in-Some-clause-numbers
returns-in-Some-clause-numbers g c = λ calls. keeps_all_numbers (behind_calls c.args.self.now.session calls)

pub returns-in-None-clause-numbers : goal.returns-in-None-clause-numbers
returns-in-None-clause-numbers g c = λ calls. keeps_all_numbers (behind_calls c.args.self.now.session calls)
