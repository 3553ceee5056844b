use Rattle.std.proofs.Common.{inl, inr, refl, subst, sym}
use Rattle.std.proofs.lemmas.Result.{on_ok_weaker}
use Rattle.blot_types.proofs.GeneralLemmas.{both-ok}
use Rattle.blot_recovery.specs.Parties.{IsKeptPeer}
use Rattle.blot_recovery.specs.Taking.{IsPartyOf}
use Rattle.blot_recovery.proofs.TakingLemmas.{asked-taken, peer-taken, same-names, seated-asked, seated-more}
use Rattle.blot_recovery.proofs.taking.Taking.take_kept.Goals as goal

pub returns-in-Operator-clause-held : goal.returns-in-Operator-clause-held
returns-in-Operator-clause-held g c =
    let old = c.args.self.now in
    let by = subst (IsPartyOf old c.args.kept) c.in-Operator.is c.in_ok-name.ensures.party in
    both-ok c.take.result c.take.ensures.opening c.take.ensures.operators (λ up holds text more last apart has.
    asked-taken old c.take.new.opening c.take.new.self c.in-Operator.name text more c.args.kept last by.asked up (holds text more last has.operators) has)

pub returns-in-Peer-clause-held : goal.returns-in-Peer-clause-held
returns-in-Peer-clause-held g c =
    let old = c.args.self.now in
    let at = c.in-Peer.at in
    let is = c.index_mut.ensures.value in
    let of = subst (IsPartyOf old c.args.kept) c.in-Peer.is c.in_ok-name.ensures.party in
    both-ok c.take-in-Peer.result c.take-in-Peer.ensures.opening c.take-in-Peer.ensures.peer (λ up holds text more last apart has.
    peer-taken old _ at of.peer c.take-in-Peer.new.self text more c.args.kept last of.within of.found of.stands up refl refl refl
    (holds text more last (subst (IsKeptPeer old.own text) (sym is) (has.peers at c.index_mut.result.now of.within))) apart has)

pub returns-in-Peer-clause-asks : goal.returns-in-Peer-clause-asks
returns-in-Peer-clause-asks g c =
    on_ok_weaker c.take-in-Peer.result (λ _. record {
      own_is = refl;
      wanted_is = refl;
      names_are = same-names c.args.self.now.peers.items c.in-Peer.at c.index_mut.result.now c.take-in-Peer.new.self c.index_mut.ensures.value c.take-in-Peer.ensures.name;
      first_is = λ _ first. first;
    }) c.take-in-Peer.ensures.opening

pub returns-in-Operator-clause-of : goal.returns-in-Operator-clause-of
returns-in-Operator-clause-of g c =
    let by = subst (IsPartyOf c.args.self.now c.args.kept) c.in-Operator.is c.in_ok-name.ensures.party in
    on_ok_weaker c.take.result (λ _. inl (c.in-Operator.name, by)) c.take.ensures.opening

pub returns-in-Peer-clause-of : goal.returns-in-Peer-clause-of
returns-in-Peer-clause-of g c =
    let of = subst (IsPartyOf c.args.self.now c.args.kept) c.in-Peer.is c.in_ok-name.ensures.party in
    on_ok_weaker c.take-in-Peer.result (λ _. inr (record { peer = of.peer; place = c.in-Peer.at; listed = of.found; stands = of.stands })) c.take-in-Peer.ensures.opening

pub returns-in-Operator-clause-seats : goal.returns-in-Operator-clause-seats
returns-in-Operator-clause-seats g c =
    let by = subst (IsPartyOf c.args.self.now c.args.kept) c.in-Operator.is c.in_ok-name.ensures.party in
    on_ok_weaker c.take.result (λ gives named text more last seated.
    seated-asked named text more c.args.kept last c.in-Operator.name by.asked c.args.self.now.operators c.take.new.self gives seated) c.take.ensures.seat

pub returns-in-Peer-clause-seats : goal.returns-in-Peer-clause-seats
returns-in-Peer-clause-seats g c =
    on_ok_weaker c.take-in-Peer.result (λ _ named text more last seated.
    seated-more named text more c.args.kept last c.args.self.now.operators seated) c.take-in-Peer.ensures.opening
