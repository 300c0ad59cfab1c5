use Rattle.std.proofs.Common.{◌≡◌, ◌∙◌, ◌<◌, ◌≤◌, ap, arith, length, take, List, ℕ}
use Rattle.std.proofs.lemmas.List.{take-append-le, length-take, length-take-le}
use Rattle.std.proofs.lemmas.Result.{err_from_is_err_and}
use Rattle.bc_script.proofs.Told.{reads_on, taken_then, cause_then, room_left, whole_end, cause_end}
use Rattle.bc_script.proofs.trace.read_trace.Goals as goal

pub returns-in_err-take_all-clause-cause : goal.returns-in_err-take_all-clause-cause
returns-in_err-take_all-clause-cause g c =
    let facts = g.S.Source.facts in
    let p = err_from_is_err_and c.from_residual-in_err-take_all.result c.from_residual-in_err-take_all.ensures.1 in
    let room = c.min-room.ensures in
    let kept : length c.next.new.into ≡ length (take c.min-room.result c.loop-count.buffer) = c.next.auto.into in
    let cut = length-take c.min-room.result c.loop-count.buffer in
    let moved = c.in-Ok.ensures in
    let few : c.in-Ok.count ≤ 4096 = omega (arith, room, kept, cut, moved.0) in
    rw (p.1, p.2) (cause_then c.loop-count.taken c.in-Ok.count _ _ _ c.next.new.into _ (facts c.args.source.now) (facts c.loop-count.source) (facts c.next.new.self) c.in_err-take_all.field-0.0 moved.0
    few (take-append-le _ _ _ moved.0) c.loop-count.invariant.count c.loop-count.invariant.draft.short
    c.in_err-take_all.ensures.after c.in_err-take_all.ensures.text c.loop-count.invariant.told moved.1 (moved.3 ∙ c.loop-count.invariant.faults))

pub returns-in_err-take_all-clause-taken : goal.returns-in_err-take_all-clause-taken
returns-in_err-take_all-clause-taken g c =
    let room = c.min-room.ensures in
    let kept : length c.next.new.into ≡ length (take c.min-room.result c.loop-count.buffer) = c.next.auto.into in
    let cut = length-take c.min-room.result c.loop-count.buffer in
    let moved = c.in-Ok.ensures in
    taken_then c.loop-count.taken c.in-Ok.count 21233665 c.loop-count.draft.lines.items c.loop-count.draft.phase c.loop-count.draft.part.items c.next.new.into _ _ _ moved.0 (omega (arith, room, kept, cut, moved.0, c.loop-count.auto.taken-fits)) c.loop-count.invariant.told moved.1

pub returns-then-count-eq0-clause-whole : goal.returns-then-count-eq0-clause-whole
returns-then-count-eq0-clause-whole g c =
    let facts = g.S.Source.facts in
    let room = c.min-room.ensures in
    let kept : length c.next.new.into ≡ length (take c.min-room.result c.loop-count.buffer) = c.next.auto.into in
    let cut = length-take c.min-room.result c.loop-count.buffer in
    let moved = c.in-Ok.ensures in
    let less = room_left c.loop-count.taken c.loop-count.draft.lines.items c.loop-count.draft.phase c.loop-count.draft.part.items c.loop-count.invariant.draft c.loop-count.invariant.count in
    let some : 0 < length c.next.new.into = omega (arith, room, kept, cut, less) in
    whole_end c.loop-count.taken c.in-Ok.count c.loop-count.draft.lines.items c.loop-count.draft.phase c.loop-count.draft.part.items c.next.new.into
    (facts c.args.source.now) (facts c.loop-count.source) (facts c.next.new.self) c.end.result c.if-count-eq0.true c.end.ensures.text
    c.loop-count.invariant.told moved.1 (moved.2 some c.if-count-eq0.true) (moved.3 ∙ c.loop-count.invariant.faults)

pub returns-then-count-eq0-clause-cause : goal.returns-then-count-eq0-clause-cause
returns-then-count-eq0-clause-cause g c =
    let facts = g.S.Source.facts in
    let room = c.min-room.ensures in
    let kept : length c.next.new.into ≡ length (take c.min-room.result c.loop-count.buffer) = c.next.auto.into in
    let cut = length-take c.min-room.result c.loop-count.buffer in
    let moved = c.in-Ok.ensures in
    let less = room_left c.loop-count.taken c.loop-count.draft.lines.items c.loop-count.draft.phase c.loop-count.draft.part.items c.loop-count.invariant.draft c.loop-count.invariant.count in
    let some : 0 < length c.next.new.into = omega (arith, room, kept, cut, less) in
    cause_end c.loop-count.taken c.in-Ok.count c.loop-count.draft.lines.items c.loop-count.draft.phase c.loop-count.draft.part.items c.next.new.into
    (facts c.args.source.now) (facts c.loop-count.source) (facts c.next.new.self) c.end.result c.if-count-eq0.true
    c.loop-count.invariant.count c.loop-count.invariant.draft.short c.end.ensures.after c.end.ensures.text
    c.loop-count.invariant.told moved.1 (moved.2 some c.if-count-eq0.true) (moved.3 ∙ c.loop-count.invariant.faults)

pub loop-count-preserved : goal.loop-count-preserved
loop-count-preserved g c =
    let moved = c.in-Ok.ensures in
    let same = take-append-le c.in-Ok.count c.next.new.into _ moved.0 in
    record {
      draft = c.in_ok-take_all.ensures.draft;
      count = (let more = c.in_ok-take_all.ensures.more in let len = ap (λ (bs : List ℕ). length bs) same in let all = length-take-le c.in-Ok.count c.next.new.into moved.0 in let so_far = c.loop-count.invariant.count in omega arith);
      told = reads_on c.loop-count.taken c.in-Ok.count _ _ _ _ _ _ c.next.new.into _ _ _ _ moved.0 same c.in_ok-take_all.ensures.text c.loop-count.invariant.told moved.1;
      faults = moved.3 ∙ c.loop-count.invariant.faults;
    }
