use Rattle.std.proofs.Common.{◌≡◌, ◌+◌, ◌++◌, Bool, true, false, List, [], ◌∷◌, take, sym, ap, ◌∙◌, refl, Some, None, filter, append-nil}
use Rattle.std.proofs.lemmas.List.{take_more}
use Rattle.std.proofs.lemmas.List.Elements.{filter_map-append, filter-append}
use Rattle.blot_types.specs.declared.{command.Entry.Entry, lines.Version.Version}
use Rattle.blot_types.specs.Survivors.{links_of, stands_in, version_of, versions_of}
use Rattle.blot_types.proofs.LawLemmas.{has_one_survivor_each, busts_leave_others}
use Rattle.blot_types.proofs.UncorrectedLemmas.{stands_uncorrected}
use Rattle.blot_model.proofs.surviving.survivors.Goals as goal
use Rattle.blot_model.proofs.surviving.survivors.Goals.{in-Some+then-stands+in_ok-push, in-Some+else-stands, in_default}

one_kept :
    (stands : Version → Bool) (entry : Entry) (version : Version) (before after : List Version) → version_of entry ≡ Some version → stands version ≡ true
    → after ≡ before ++ version ∷ [] → after ≡ before ++ filter stands (versions_of (entry ∷ []))
one_kept stands entry version before after brought stays is = is ∙ ap (λ back. before ++ back) (rw (brought, stays) refl)

one_passed :
    (stands : Version → Bool) (entry : Entry) (version : Version) (before after : List Version) → version_of entry ≡ Some version → stands version ≡ false
    → after ≡ before → after ≡ before ++ filter stands (versions_of (entry ∷ []))
one_passed stands entry version before after brought goes is = is ∙ sym (append-nil before) ∙ ap (λ back. before ++ back) (rw (brought, goes) refl)

none_brought :
    (stands : Version → Bool) (entry : Entry) (before after : List Version) → version_of entry ≡ None
    → after ≡ before → after ≡ before ++ filter stands (versions_of (entry ∷ []))
none_brought stands entry before after none is = is ∙ sym (append-nil before) ∙ ap (λ back. before ++ back) (rw none refl)

pub loop-entry-preserved : goal.loop-entry-preserved
loop-entry-preserved c =
    let list = c.args.list.now in
    let index = c.loop-entry.entry-index in
    let entry = c.entry-item.result in
    let stands = stands_in (links_of list) in
    let more : take (index + 1) list ≡ take index list ++ entry ∷ [] = rw c.entry-item.is (take_more list index entry c.loop-entry-test.true) in
    let split : filter stands (versions_of (take (index + 1) list)) ≡ filter stands (versions_of (take index list)) ++ filter stands (versions_of (entry ∷ [])) =
    ap (λ l. filter stands (versions_of l)) more ∙ ap (filter stands) (filter_map-append version_of (take index list) (entry ∷ []))
    ∙ filter-append stands (versions_of (take index list)) (versions_of (entry ∷ [])) in
    let stood : (items : List Version) → items ≡ c.loop-entry.versions.items ++ filter stands (versions_of (entry ∷ [])) → items ≡ filter stands (versions_of (take (index + 1) list)) =
    λ items is. is ∙ ap (λ front. front ++ filter stands (versions_of (entry ∷ []))) c.loop-entry.invariant ∙ sym split in
    elim c.match-version.branch [
      | in-Some+then-stands+in_ok-push w ↦
          stood c.match-version.versions.items
          (one_kept stands entry w.in-Some.version c.loop-entry.versions.items _ (sym c.version.ensures ∙ w.in-Some.is) (sym w.stands.ensures ∙ w.if-stands.true) (ap (λ v. v.items) w.versions-is ∙ w.in_ok-push.ensures.items))
      | in-Some+else-stands w ↦
          stood c.match-version.versions.items
          (one_passed stands entry w.in-Some.version c.loop-entry.versions.items _ (sym c.version.ensures ∙ w.in-Some.is) (sym w.stands.ensures ∙ w.if-stands.false) (ap (λ v. v.items) w.versions-is))
      | in_default w ↦
          stood c.match-version.versions.items
          (none_brought stands entry c.loop-entry.versions.items _ (sym c.version.ensures ∙ w.in_default.is) (ap (λ v. v.items) w.versions-is))
    ]

pub returns-clause-one_each : goal.returns-clause-one_each
returns-clause-one_each c = has_one_survivor_each c.args.list.now

pub returns-clause-busts : goal.returns-clause-busts
returns-clause-busts c = busts_leave_others c.args.list.now

pub returns-in_err-push-clause-one_each : goal.returns-in_err-push-clause-one_each
returns-in_err-push-clause-one_each c = has_one_survivor_each c.args.list.now

pub returns-in_err-push-clause-busts : goal.returns-in_err-push-clause-busts
returns-in_err-push-clause-busts c = busts_leave_others c.args.list.now

pub returns-clause-uncorrected : goal.returns-clause-uncorrected
returns-clause-uncorrected c = stands_uncorrected c.args.list.now

pub returns-in_err-push-clause-uncorrected : goal.returns-in_err-push-clause-uncorrected
returns-in_err-push-clause-uncorrected c = stands_uncorrected c.args.list.now
