use Rattle.std.proofs.Common.{refl, ◌≡◌, arith, to_z, of_z, [], reverse, pos, sym, ◌∙◌, ap, Some, None, find, is_none, filter_map}
use mir.Syntax.{w128}
use Rattle.std.proofs.lemmas.Int.{ints}
use Rattle.blot_types.specs.declared.refused.Refused.TheVariants.{UnknownExec, BustedExec, RepeatedExec, ExecTaken, Instrument}
use Rattle.blot_types.specs.Allocations.{instructions_of}
use Rattle.blot_types.specs.Chains.{root_in}
use Rattle.blot_types.specs.Order.{cum_of}
use Rattle.blot_types.specs.Refusals.{first_of, bust_of_key, repeated_in, other_holder, current_fill, booked, mismatch}
use Rattle.blot_types.specs.Survivors.{links_of}
use Rattle.blot_command.proofs.RefusalLemmas.{rule_passed, rule_applies, same_mismatch}
use Rattle.blot_command.specs.Refusing.{other_instrument}
use Rattle.blot_command.specs.Slots.{entries_in}
use Rattle.blot_command.proofs.refusal.terms_refusal.Goals as goal

pub returns-in-Some-busted_exec : goal.returns-in-Some-busted_exec
returns-in-Some-busted_exec c =
    let execs = c.as_slice-execs.ensures.items in
    let unknown : find (λ key. is_none (root_in (links_of (entries_in c.args.slots.now)) key)) c.args.terms.now.execs ≡ None =
    ap (λ links. find (λ key. is_none (root_in links key)) c.args.terms.now.execs) (sym c.requires.chains.links_are) ∙ ap (find (λ key. is_none (root_in c.args.chains.now.list key))) (sym execs) ∙ sym c.unknown_exec.ensures ∙ c.in_default.is in
    let busted : first_of (bust_of_key (links_of (entries_in c.args.slots.now))) c.args.terms.now.execs ≡ Some c.in-Some-busted_exec.number =
    ap (λ links. first_of (bust_of_key links) c.args.terms.now.execs) (sym c.requires.chains.links_are) ∙ ap (first_of (bust_of_key c.args.chains.now.list)) (sym execs) ∙ sym c.busted_exec.ensures ∙ c.in-Some-busted_exec.is in
    sym (rule_passed UnknownExec _ _ unknown ∙ rule_applies BustedExec _ _ _ busted)

pub returns-in-Some-other_instrument : goal.returns-in-Some-other_instrument
returns-in-Some-other_instrument c =
    let execs = c.as_slice-execs.ensures.items in
    let links = c.requires.chains.links_are in
    let keys = c.args.terms.now.execs in
    let unknown : find (λ key. is_none (root_in (links_of (entries_in c.args.slots.now)) key)) keys ≡ None =
    ap (λ links. find (λ key. is_none (root_in links key)) keys) (sym links) ∙ ap (find (λ key. is_none (root_in c.args.chains.now.list key))) (sym execs) ∙ sym c.unknown_exec.ensures ∙ c.in_default.is in
    let busted : first_of (bust_of_key (links_of (entries_in c.args.slots.now))) keys ≡ None =
    ap (λ links. first_of (bust_of_key links) keys) (sym links) ∙ ap (first_of (bust_of_key c.args.chains.now.list)) (sym execs) ∙ sym c.busted_exec.ensures ∙ c.in_default-busted_exec.is in
    let repeated : repeated_in (links_of (entries_in c.args.slots.now)) [] keys ≡ None =
    ap (λ links. repeated_in links [] keys) (sym links) ∙ ap (repeated_in c.args.chains.now.list []) (sym execs) ∙ sym c.repeated_exec.ensures ∙ c.in_default-repeated_exec.is in
    let taken : first_of (other_holder (links_of (entries_in c.args.slots.now)) (instructions_of (entries_in c.args.slots.now)) c.args.reference.now) keys ≡ None =
    ap (λ links. first_of (other_holder links (instructions_of (entries_in c.args.slots.now)) c.args.reference.now) keys) (sym links)
    ∙ ap (λ instructions. first_of (other_holder c.args.chains.now.list instructions c.args.reference.now) keys) (sym c.requires.instructions_are)
    ∙ ap (first_of (other_holder c.args.chains.now.list c.args.allocs.now.list c.args.reference.now)) (sym execs) ∙ sym c.exec_taken.ensures ∙ c.in_default-exec_taken.is in
    let other : other_instrument (entries_in c.args.slots.now) c.args.terms.now keys ≡ Some c.in-Some-other_instrument.key =
    ap (other_instrument (entries_in c.args.slots.now) c.args.terms.now) (sym execs) ∙ sym c.other_instrument.ensures ∙ c.in-Some-other_instrument.is in
    sym (rule_passed UnknownExec _ _ unknown ∙ rule_passed BustedExec _ _ busted ∙ rule_passed RepeatedExec _ _ repeated ∙ rule_passed ExecTaken _ _ taken ∙ rule_applies Instrument _ _ _ other)

pub returns : goal.returns
returns c =
    let execs = c.as_slice-execs.ensures.items in
    let links = c.requires.chains.links_are in
    let keys = c.args.terms.now.execs in
    let fill = current_fill (reverse (entries_in c.args.slots.now)) in
    let unknown : find (λ key. is_none (root_in (links_of (entries_in c.args.slots.now)) key)) keys ≡ None =
    ap (λ links. find (λ key. is_none (root_in links key)) keys) (sym links) ∙ ap (find (λ key. is_none (root_in c.args.chains.now.list key))) (sym execs) ∙ sym c.unknown_exec.ensures ∙ c.in_default.is in
    let busted : first_of (bust_of_key (links_of (entries_in c.args.slots.now))) keys ≡ None =
    ap (λ links. first_of (bust_of_key links) keys) (sym links) ∙ ap (first_of (bust_of_key c.args.chains.now.list)) (sym execs) ∙ sym c.busted_exec.ensures ∙ c.in_default-busted_exec.is in
    let repeated : repeated_in (links_of (entries_in c.args.slots.now)) [] keys ≡ None =
    ap (λ links. repeated_in links [] keys) (sym links) ∙ ap (repeated_in c.args.chains.now.list []) (sym execs) ∙ sym c.repeated_exec.ensures ∙ c.in_default-repeated_exec.is in
    let taken : first_of (other_holder (links_of (entries_in c.args.slots.now)) (instructions_of (entries_in c.args.slots.now)) c.args.reference.now) keys ≡ None =
    ap (λ links. first_of (other_holder links (instructions_of (entries_in c.args.slots.now)) c.args.reference.now) keys) (sym links)
    ∙ ap (λ instructions. first_of (other_holder c.args.chains.now.list instructions c.args.reference.now) keys) (sym c.requires.instructions_are)
    ∙ ap (first_of (other_holder c.args.chains.now.list c.args.allocs.now.list c.args.reference.now)) (sym execs) ∙ sym c.exec_taken.ensures ∙ c.in_default-exec_taken.is in
    let other : other_instrument (entries_in c.args.slots.now) c.args.terms.now keys ≡ None =
    ap (other_instrument (entries_in c.args.slots.now) c.args.terms.now) (sym execs) ∙ sym c.other_instrument.ensures ∙ c.in_default-other_instrument.is in
    let wanted : c.wanted.result ≡ cum_of (filter_map fill keys) = c.wanted.ensures ∙ ap (λ listed. cum_of (filter_map fill listed)) execs in
    let lines = booked c.args.terms.now.lines in
    let quantity : c.mismatch.result ≡ mismatch (cum_of (filter_map fill keys)) (pos c.args.terms.now.block) lines =
    c.mismatch.ensures ∙ same_mismatch (to_z w128 (of_z w128 c.wanted.result)) lines (cum_of (filter_map fill keys)) lines (pos c.args.terms.now.block) (omega (arith, ints, wanted, c.wanted.type_inv)) refl in
    sym (rule_passed UnknownExec _ _ unknown ∙ rule_passed BustedExec _ _ busted ∙ rule_passed RepeatedExec _ _ repeated ∙ rule_passed ExecTaken _ _ taken ∙ rule_passed Instrument _ _ other ∙ sym quantity)
