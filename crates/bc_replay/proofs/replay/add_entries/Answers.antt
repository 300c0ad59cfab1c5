use Rattle.std.proofs.Common.{◌+◌, ◌≤◌, List, All, subst, sym, take}
use Rattle.std.proofs.lemmas.List.{take_all}
use Rattle.bc_jset.specs.Entries.{FoundEntry}
use Rattle.bc_key.specs.Key.{IsExtent}
use Rattle.bc_key.specs.declared.key.Key.{Key}
use Rattle.bc_node.specs.Leaf.{AreAdded}
use Rattle.bc_replay.specs.Replay.{entry_keys}
use Rattle.bc_replay.proofs.Replays.{extents_at, more_entries, taken_next}
use Rattle.bc_replay.proofs.replay.add_entries.Goals as goal

pub loop-i-preserved : goal.loop-i-preserved
loop-i-preserved c = λ have.
    let es = c.args.journal.now.entries in
    let i = c.loop-i.i in
    let e = c.entry.result.now in
    let extents = subst (λ (ks : List Key). All IsExtent ks) (sym c.as_slice.ensures) (extents_at es i e c.entry.ensures have) in
    let one = subst (λ (ks : List Key). AreAdded ks c.loop-i.map.keys c.add_extents.new.map.keys) c.as_slice.ensures (c.in_ok-add_extents.ensures extents) in
    more_entries (take (i + 1) es) (take i es) e c.args.map.now.keys c.loop-i.map.keys c.add_extents.new.map.keys (taken_next es i e c.entry.ensures) (c.loop-i.invariant have) one

pub returns : goal.returns
returns c = λ have.
    let es = c.args.journal.now.entries in
    let all = subst (λ n. n ≤ c.loop-i.i) c.len-i-end.ensures c.loop-i-test.false in
    subst (λ (xs : List FoundEntry). AreAdded (entry_keys xs) c.args.map.now.keys c.loop-i.map.keys) (take_all c.loop-i.i es all) (c.loop-i.invariant have)
