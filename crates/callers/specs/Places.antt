-- What putting a value at a place means.
use Rattle.std.specs.Prelude.{◌≡◌, ℕ, ◌<◌, true, List, [], Option, Some, None, refl, nat_lt, length, slice_set, slice_index_or, if◌then◌else◌, option_map}
use Rattle.std.proofs.Common.{◌∙◌, ap, inl, inr}
use Rattle.std.proofs.lemmas.Bool.{cases_Bool, ltb-true}
use Rattle.std.proofs.lemmas.List.{set-set, set-get_or, get_or-set_same}
use Rattle.blot_command.specs.Undoable.{Meaning, IsLawful}
use Rattle.callers.specs.declared.{places.Put.Put, places.Was.Was, places.PutFault.PutFault}
use Rattle.callers.specs.declared.places.PutFault.TheVariants.{NoPlace, NoMemory}

-- the place holds the value then, and the inverse is what it held; there are no numbers in the places
abbrev pub put_meaning : Meaning (List (Option ℕ)) (List (Option ℕ)) Put Was PutFault
put_meaning = record {
  list_of = λ places. places;
  spare = λ places. [];
  kept = λ places number was. Unit {0};
  stays = λ was old new. Unit {0};
  is_valid = λ places. true;
  numbers = λ places. [];
  refused = λ places put. if nat_lt put.place (length places) then None else Some NoPlace;
  after = λ places put number. slice_set places put.place (Some put.value);
  inverse_of = λ places put number. record { place = put.place; value = slice_index_or places put.place None };
  before = λ places was. slice_set places was.place was.value;
  command_of = λ places was. option_map (λ value. record { place = was.place; value = value }) (slice_index_or places was.place None);
  takes_memory = λ put. true;
  no_memory = NoMemory;
}

-- a place where a value may be put
taken : (places : List (Option ℕ)) (put : Put) → put_meaning.refused places put ≡ None → put.place < length places
taken places put accepted =
    elim (cases_Bool (nat_lt put.place (length places))) [
      | inl within ↦ ltb-true put.place (length places) within
      | inr past ↦ absurd (let no_place : Some NoPlace ≡ None = rw past at accepted in cc)
    ]

-- and that it is lawful
pub put_lawful : IsLawful put_meaning
put_lawful = record {
  before_after = λ places put number valid next.
      set-set places put.place (Some put.value) (slice_index_or places put.place None) ∙ set-get_or places put.place None;
  command_back = λ places put number valid next.
      ap (option_map (λ value. record { place = put.place; value = value })) (get_or-set_same places put.place (Some put.value) None (taken places put next.accepted));
  valid_after = λ places put number valid within next. refl;
}
