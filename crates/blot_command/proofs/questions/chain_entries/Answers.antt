use Rattle.std.proofs.Common.{◌≡◌, ℕ, ◌+◌, ◌<◌, List, [], ◌++◌, reverse, Option, sym, ap, subst, ◌∙◌}
use Rattle.std.specs.List.{cons_option}
use Rattle.std.specs.Option.{option_map_or}
use Rattle.blot_types.specs.declared.command.Entry.{Entry}
use Rattle.blot_command.specs.Questions.{chain_in, entry_in}
use Rattle.blot_command.specs.Slots.{entries_in}
use Rattle.blot_command.proofs.ChainEntryLemmas.{from_in}
use Rattle.blot_command.proofs.KeyEntryLemmas.{begin-chain, go-on, smaller}
use Rattle.blot_command.proofs.questions.chain_entries.Goals as goal

pub loop-next-init : goal.loop-next-init
loop-next-init c =
    let list = entries_in c.args.slots.now in
    begin-chain list c.args.chains.now.list c.args.root.now c.bust_of.result c.current-next.result c.put_entry.new.entries.items c.requires.book c.requires.holds.links_are c.bust_of.ensures c.current-next.ensures
    (c.in_ok-put_entry.ensures ∙ ap (λ (all : List Entry). all ++ cons_option (entry_in list c.bust_of.result) []) c.new-entries.ensures.items)

pub loop-next-smaller : goal.loop-next-smaller
loop-next-smaller c =
    subst (λ (found : Option ℕ). option_map_or (λ n. n + 1) c.version_before-next.result 0 < option_map_or (λ n. n + 1) found 0) (sym c.in-Some.is)
    (smaller c.args.chains.now.list c.args.root.now c.in-Some.number c.version_before-next.result c.version_before-next.ensures)

pub loop-next-preserved : goal.loop-next-preserved
loop-next-preserved c =
    let list = entries_in c.args.slots.now in
    go-on list c.args.chains.now.list c.args.root.now c.in-Some.number c.version_before-next.result c.loop-next.entries.items c.put_entry-in-Some.new.entries.items (chain_in (reverse list) c.args.root.now)
    c.requires.book c.requires.holds.links_are c.version_before-next.ensures
    c.in_ok-put_entry-2.ensures
    (subst (λ (found : Option ℕ). c.loop-next.entries.items ++ from_in c.args.root.now (reverse list) found ≡ chain_in (reverse list) c.args.root.now) c.in-Some.is c.loop-next.invariant)
