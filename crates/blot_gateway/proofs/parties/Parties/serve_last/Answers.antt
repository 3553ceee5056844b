use Rattle.std.proofs.Common.{refl, inr}
use Rattle.blot_gateway.specs.Serving.{parties}
use Rattle.blot_gateway.proofs.parties.Parties.serve_last.Goals as goal

pub returns-in-Some-clause-told : goal.returns-in-Some-clause-told
returns-in-Some-clause-told g c =
    inr (record {
      between = parties c.pass_stop.new.wire c.pass_stop.new.clock c.args.self.now.sink c.pass_stop.new.session;
      called = c.in-Ok.ensures.ok;
      sink = refl;
      within = c.in-Some.ensures.ends;
    })
