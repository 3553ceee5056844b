use Rattle.std.proofs.Common.{ap, option_map}
use Rattle.blot_tag.specs.Views.{text_of}
use Rattle.blot_tag.specs.Walking.{frames_of}
use Rattle.blot_gateway.proofs.GreetingLemmas.{nothing-first}
use Rattle.blot_gateway.proofs.greeting.peek.Goals as goal

pub returns-in_default-found-clause-peeks : goal.returns-in_default-found-clause-peeks
returns-in_default-found-clause-peeks c =
    nothing-first (frames_of c.args.reader.now.unread) (option_map text_of c.in-Ok.found) c.in-Ok.ensures.first (ap (option_map text_of) c.in_default-found.is)
