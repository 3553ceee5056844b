use Rattle.std.proofs.Common.{◌∙◌}
use Rattle.blot_alloc.proofs.index.Index.make_room.Goals as goal

pub returns-in_err-make_room-clause-same : goal.returns-in_err-make_room-clause-same
returns-in_err-make_room-clause-same c = λ slots indexed. record {
  takers = λ key. c.make_room.ensures.same key ∙ indexed.takers key;
  endings = indexed.endings;
  holders = indexed.holders;
}

pub returns-in_err-make_ending_room-clause-same : goal.returns-in_err-make_ending_room-clause-same
returns-in_err-make_ending_room-clause-same c = λ slots indexed. record {
  takers = λ key. c.make_room.ensures.same key ∙ indexed.takers key;
  endings = λ key. c.make_ending_room.ensures.same key ∙ indexed.endings key;
  holders = indexed.holders;
}

pub returns-clause-same : goal.returns-clause-same
returns-clause-same c = λ slots indexed. record {
  takers = λ key. c.make_room.ensures.same key ∙ indexed.takers key;
  endings = λ key. c.make_ending_room.ensures.same key ∙ indexed.endings key;
  holders = λ root. c.make_room-2.ensures.same root ∙ indexed.holders root;
}
