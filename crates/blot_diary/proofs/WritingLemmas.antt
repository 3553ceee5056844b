-- A frame of given fields: what is left of them at each field.
use Rattle.std.proofs.Common.{◌≡◌, ℕ, suc, ◌+◌, ◌<◌, Bool, false, ◌&&◌, List, [], ◌∷◌, ◌++◌, length, drop, get_or, Option, Some, None, refl, sym, ap, subst, ◌∙◌, add-one, append_assoc, Bor, is_none, drop-cons}
use Rattle.blot_tag.specs.Fields.{TagValue, field_of}
use Rattle.blot_tag.specs.Writing.{IsWriteFault, Written, begun, body_of, kind_field, last_field, refusal_of, with_field}
use Rattle.blot_tag.specs.declared.{write_fault.WriteFault.WriteFault, write_fault.WriteFault.TheVariants.NoMemory}
use Rattle.blot_tag.proofs.WritingLemmas.{last_of-push}
use Rattle.blot_diary.specs.Writing.{EachMayFollow, fields_in, fits, takes_all, written}

-- where a field is refused the message can't be written
pub refuses : (whole : Written) (refusal : Option WriteFault) (fault : WriteFault) (later : Bool)
    → (is_none refusal && later) ≡ fits whole → IsWriteFault refusal fault → (fault ≡ NoMemory → ⊥) → false ≡ fits whole
refuses whole None fault later same is other = absurd (other is)
refuses whole (Some refusal) fault later same is other = same

-- a message, with the fields to come, is the whole one
pub record Goes (whole message : Written) (later : List TagValue) : Type 0 where
  pub follow : EachMayFollow (last_field message) later
  pub all : written message.kind (message.fields ++ later) ≡ whole
  pub same : takes_all message later ≡ fits whole

-- all fields are to come
pub starts : (whole : Written) → EachMayFollow (kind_field whole.kind) whole.fields → refusal_of 0 (kind_field whole.kind) ≡ None
    → Goes whole (begun whole.kind) whole.fields
unfolding fits
starts whole follow taken = record {
  follow = follow;
  all = refl;
  same = ap (λ refusal. is_none refusal && takes_all (begun whole.kind) whole.fields) (sym taken);
}

module _ (whole : Written) (fields : List (ℕ × Bor (List ℕ))) (place : ℕ) (other : ℕ × Bor (List ℕ)) (message : Written) (inside : place < length fields)
    (goes : Goes whole message (fields_in (drop place fields))) where
  -- the field at a place, and those behind it
  abbrev field : TagValue
  field = field_of (get_or fields place other).0 (get_or fields place other).1.now

  abbrev later : List TagValue
  later = fields_in (drop (place + 1) fields)

  here : Goes whole message (field ∷ later)
  here =
      let next : suc place ≡ place + 1 = sym (add-one place) in
      subst (Goes whole message)
      (ap fields_in (drop-cons fields place other inside) ∙ ap (λ i. fields_in (get_or fields place other ∷ drop i fields)) next) goes

  -- one field more
  pub goes_on : (next : Written) → refusal_of (length (body_of message)) field ≡ None → next ≡ with_field message field → Goes whole next later
  goes_on next taken is =
      subst (λ m. Goes whole m later) (sym is) (record {
        follow = subst (λ last. EachMayFollow last later) (sym (last_of-push _ message.fields field)) here.follow.1;
        all = ap (written message.kind) (append_assoc message.fields (field ∷ []) later) ∙ here.all;
        same = ap (λ refusal. is_none refusal && takes_all (with_field message field) later) (sym taken) ∙ here.same;
      })

  -- a field that is refused
  pub stops : (fault : WriteFault) → IsWriteFault (refusal_of (length (body_of message)) field) fault → (fault ≡ NoMemory → ⊥) → false ≡ fits whole
  stops fault is want = refuses whole (refusal_of (length (body_of message)) field) fault _ here.same is want
