use Rattle.std.proofs.Common.{Some, ap, ◌∙◌, OnErr, Result, Ok, Err}
use Rattle.std.proofs.lemmas.Result.{on_err_weaker, on_ok_weaker}
use Rattle.blot_chain.specs.declared.index.Index.{Index}
use Rattle.blot_chain.proofs.IndexLemmas.{chain-named, first-named, reached-key, same-indexed, stays-then}
use Rattle.blot_chain.proofs.index.Index.add.Goals as goal

-- what is so is so at an error
at_err : {T E P : Type 0} (result : Result T E) → P → OnErr result P
at_err (Ok x) holds = tt
at_err (Err e) holds = holds

pub returns-then-begins-clause-ok : goal.returns-then-begins-clause-ok
returns-then-begins-clause-ok c =
    on_ok_weaker c.add.result
    (λ puts. first-named c.args.slot.now c.args.place c.args.self.now _ (c.begins.ensures c.if-begins.true) (rw c.place.ensures at puts) c.add.ensures.places c.requires.placed)
    c.add.ensures.ok

pub returns-then-begins-clause-err : goal.returns-then-begins-clause-err
returns-then-begins-clause-err c =
    on_err_weaker c.add.result (λ same. same-indexed c.args.self.now _ (record { same = same; keeps = c.add.ensures.places })) c.add.ensures.err

pub returns-in_err-make_taker_room-clause-err : goal.returns-in_err-make_taker_room-clause-err
returns-in_err-make_taker_room-clause-err c =
    at_err c.from_residual.result (same-indexed c.args.self.now _ (record { same = c.make_taker_room.ensures.same; keeps = c.make_taker_room.ensures.places }))

pub returns-in_err-chain-clause-err : goal.returns-in_err-chain-clause-err
returns-in_err-chain-clause-err c =
    let old : Index = c.args.self.now in
    let roomy : Index = record { cells = c.make_taker_room.new.self } in
    let reached : Index = record { cells = c.reach.new.self } in
    at_err c.from_residual-in_err-chain.result
    (same-indexed old reached
    (stays-then old roomy reached (record { same = c.make_taker_room.ensures.same; keeps = c.make_taker_room.ensures.places })
    (record { same = c.reach.ensures.same; keeps = c.reach.ensures.places })))

pub returns-in_err-add-clause-err : goal.returns-in_err-add-clause-err
returns-in_err-add-clause-err c =
    let old : Index = c.args.self.now in
    let roomy : Index = record { cells = c.make_taker_room.new.self } in
    let reached : Index = record { cells = c.reach.new.self } in
    let added : Index = record { cells = c.add-2.new.self } in
    at_err c.from_residual-in_err-add.result
    (same-indexed old added
    (stays-then old reached added
    (stays-then old roomy reached (record { same = c.make_taker_room.ensures.same; keeps = c.make_taker_room.ensures.places })
    (record { same = c.reach.ensures.same; keeps = c.reach.ensures.places }))
    (record { same = c.in_err-add.ensures.err; keeps = c.add-2.ensures.places })))

pub returns-clause-ok : goal.returns-clause-ok
returns-clause-ok c =
    let old : Index = c.args.self.now in
    let roomy : Index = record { cells = c.make_taker_room.new.self } in
    let reached : Index = record { cells = c.reach.new.self } in
    let added : Index = record { cells = c.add-2.new.self } in
    chain-named c.args.slot.now c.args.place c.in_ok-chain.chain old reached added _
    (stays-then old roomy reached (record { same = c.make_taker_room.ensures.same; keeps = c.make_taker_room.ensures.places })
    (record { same = c.reach.ensures.same; keeps = c.reach.ensures.places }))
    c.requires.placed (reached-key _ c.root.result.now c.in_ok-chain.ensures.place ∙ ap Some c.root.ensures)
    (rw c.relation_in_chain.ensures at c.in_ok-add.ensures.ok) c.add-2.ensures.places
    (rw c.place-3.ensures at c.push_taker.ensures.puts) c.push_taker.ensures.places
