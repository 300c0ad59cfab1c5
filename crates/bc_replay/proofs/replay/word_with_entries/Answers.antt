use Rattle.std.proofs.Common.{◌≡◌, ◌+◌, ◌++◌, List, ◌∷◌, [], subst, ap, ◌∙◌, take}
use Rattle.std.proofs.lemmas.Grind.{flat_map-append}
use Rattle.std.proofs.lemmas.List.{append-nil}
use Rattle.bc_jset.specs.Entries.{FoundEntry}
use Rattle.bc_key.specs.declared.key.Key.{Key}
use Rattle.bc_replay.specs.Limits.{rule_in}
use Rattle.bc_replay.specs.Refused.{KeepsWord}
use Rattle.bc_replay.specs.Replay.{entry_keys}
use Rattle.bc_replay.proofs.Replays.{taken_next}
use Rattle.bc_replay.proofs.Words.{kept_parts}
use Rattle.bc_replay.proofs.replay.word_with_entries.Goals as goal

pub loop-i-preserved : goal.loop-i-preserved
loop-i-preserved c = λ seen kept.
    let r = rule_in c.args.limits.now in
    let i = c.loop-i.i in
    let es = c.args.journal.now.entries in
    let e = c.entry.result.now in
    let parts : entry_keys (take (i + 1) es) ≡ entry_keys (take i es) ++ e.item.keys =
    ap entry_keys (taken_next es i e c.entry.ensures) ∙ flat_map-append (λ (x : FoundEntry). x.item.keys) (take i es) (e ∷ []) ∙ ap (λ (ks : List Key). entry_keys (take i es) ++ ks) (append-nil e.item.keys) in
    kept_parts r seen (entry_keys (take i es)) e.item.keys (entry_keys (take (i + 1) es)) c.word_with-word.result parts
    (subst (λ (ks : List Key). KeepsWord r ((seen ++ entry_keys (take i es)) ++ ks) c.word_with-word.result) c.as_slice.ensures (c.word_with-word.ensures (seen ++ entry_keys (take i es)) (c.loop-i.invariant seen kept)))
