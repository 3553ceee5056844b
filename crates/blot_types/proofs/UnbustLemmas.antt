-- What busts a chain, once the Bust of another chain is taken out of the middle.
use Rattle.std.proofs.Common.{◌≡◌, true, false, List, [], ◌∷◌, ◌++◌, None, refl, is_none}
use Rattle.std.proofs.lemmas.Bool.{and_parts}
use Rattle.blot_types.specs.declared.{keys.ExecKey.ExecKey, link.Link.Link}
use Rattle.blot_types.specs.Chains.{busts, bust_in, link_refusal, reference_refusal, is_chained}
use Rattle.blot_types.proofs.ChainLemmas.{none_is, accepted_key}
use Rattle.blot_types.proofs.ChainOutLemmas.{key-out, root-out, busts-other}

-- ---- Busts

-- the newest of the links, in the whole list and without the one that goes
record Newest (later front : List Link) (k link : Link) : Type 0 where
  whole : is_chained (later ++ k ∷ front) ≡ true
  out : is_chained (later ++ front) ≡ true
  accepted : reference_refusal (later ++ k ∷ front) link.role ≡ None
  same : (root : ExecKey) → busts (later ++ front) root link.role ≡ busts (later ++ k ∷ front) root link.role

newest : (later front : List Link) (k link : Link) → is_chained (link ∷ later ++ k ∷ front) ≡ true → is_chained (link ∷ later ++ front) ≡ true → Newest later front k link
newest later front k link whole out =
    let wholes : (is_none (link_refusal (later ++ k ∷ front) link.key link.role) ≡ true) × (is_chained (later ++ k ∷ front) ≡ true) = and_parts _ _ whole in
    let outs : (is_none (link_refusal (later ++ front) link.key link.role) ≡ true) × (is_chained (later ++ front) ≡ true) = and_parts _ _ out in
    let fresh = key-out later front k wholes.1 in
    let accepted = (accepted_key (later ++ front) link.key link.role (none_is _ outs.0)).1 in
    record {
      whole = wholes.1;
      out = outs.1;
      accepted = (accepted_key (later ++ k ∷ front) link.key link.role (none_is _ wholes.0)).1;
      same = λ root. busts-other (later ++ k ∷ front) (later ++ front) k.key root link.role (root-out later front k wholes.1 outs.1) fresh accepted;
    }

-- the others are busted by what busted them
pub bust-beside :
    (later front : List Link) (k : Link) (root : ExecKey) → is_chained (later ++ k ∷ front) ≡ true → is_chained (later ++ front) ≡ true → busts front root k.role ≡ false
    → bust_in (later ++ front) root ≡ bust_in (later ++ k ∷ front) root
bust-beside [] front k root whole out other = rw other refl
bust-beside (link ∷ later) front k root whole out other =
    let new = newest later front k link whole out in
    rw (new.same root, bust-beside later front k root new.whole new.out other) refl
