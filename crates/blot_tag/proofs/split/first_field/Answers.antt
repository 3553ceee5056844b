use Rattle.std.proofs.Common.{◌<◌, length, sym, subst}
use Rattle.std.specs.List.{position_or_len}
use Rattle.blot_tag.specs.Bytes.{is_soh}
use Rattle.blot_tag.proofs.FieldTextLemmas.{soh_behind_tag}
use Rattle.blot_tag.proofs.split.first_field.Goals as goal

pub split_at_soh-requires : goal.split_at_soh-requires
split_at_soh-requires c =
    subst (λ text. position_or_len is_soh text < length text) (sym c.in-Some.ensures.rest)
    (soh_behind_tag c.args.text.now c.in-Some.tag c.requires (sym c.in-Some.ensures.tag))
