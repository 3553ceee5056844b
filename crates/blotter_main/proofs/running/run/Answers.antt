use Rattle.blotter_main.proofs.running.run.Goals as goal

pub returns-in-Ok-perform-clause-did : goal.returns-in-Ok-perform-clause-did
returns-in-Ok-perform-clause-did g c = λ done. (c.in-Ok.words, c.in-Ok.ensures.peers, c.in-Ok-perform.ensures.did)
