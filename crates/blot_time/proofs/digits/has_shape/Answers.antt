use Rattle.std.proofs.Common.{◌≡◌, rules, arith, zip}
use borrow.Author.Tests.{tests}
use Rattle.std.specs.List.{list_all}
use Rattle.std.proofs.lemmas.Iterator.{YieldsList-from_slice, YieldsList-from_zip}
use Rattle.std.proofs.lemmas.Iterator.Search.{all_from_yields_List}
use Rattle.std.proofs.lemmas.Bool.Decides.{nat_tests}
use Rattle.blot_time.specs.Digits.{stands_for}
use Rattle.blot_time.proofs.digits.has_shape.Goals as goal

pub returns-then-text-shape : goal.returns-then-text-shape
returns-then-text-shape c =
    let each : c.all.result ≡ list_all (λ pair. stands_for pair.0 pair.1) (zip c.args.shape.now c.args.text.now) =
    all_from_yields_List (λ pair. stands_for pair.0 pair.1) c.all.new.self _ c.all.result c.all.ensures.ran
    (YieldsList-from_zip (YieldsList-from_slice c.args.shape.now cc) (YieldsList-from_slice c.args.text.now cc))
    (λ x b q k. search (rules, tests)) in
    grind (arith, nat_tests, each)
