-- A refusal that a caller passes on, and when words are apart.
use Rattle.std.proofs.Common.{◌≡◌, ℕ, List, Option, Some, None, Result, Ok, Err, sym, subst, IfSome, IsErrAnd, IfErr}
use Rattle.blot_arguments.specs.Words.{IsApart}

pub passed_on : {T E : Type 0} (P : E → Type 0) (result : Result T E) (refusal : E) → IsErrAnd result (λ passed. passed ≡ refusal) → P refusal → IfErr result P
passed_on P (Ok value) refusal is holds = tt
passed_on P (Err passed) refusal is holds = subst P (sym is) holds

-- words with a journal whose own CompID and peers are these are apart where these are
pub apart_of :
    (journal own_found : Option (List ℕ)) (peers_found : Option (List (List ℕ))) (own : List ℕ) (peers : List (List ℕ))
    → own_found ≡ Some own → peers_found ≡ Some peers → IfSome journal (λ _. IfSome own_found (λ own. IfSome peers_found (IsApart own)))
    → IfSome journal (λ _. IsApart own peers)
apart_of None own_found peers_found own peers is_own are apart = tt
apart_of (Some file) own_found peers_found own peers is_own are apart =
    subst (λ found. IfSome found (IsApart own)) are (subst (λ found. IfSome found (λ own. IfSome peers_found (IsApart own))) is_own apart)
