use Rattle.std.proofs.Common.{◌≡◌, ◌-◌, None, Option, Some, Ok, Err, ap, ◌∙◌, arith}
use Rattle.std.specs.Prelude.{IfErr, IfNone, IfOk, IfSome, Result, length}
use Rattle.bc_append.specs.bc_hand.Seats.{empty, world}
use Rattle.bc_append.specs.bc_hand.declared.error.StepError.{StepError}
use Rattle.bc_append.specs.bc_hand.declared.hand.Hand.{Hand}
use Rattle.bc_append.specs.bc_machine.World.{FromEach, cache_among}
use Rattle.bc_turn.specs.Need.{PartNeedsFrom}
use Rattle.bc_turn.specs.Part.{HasFailed, HasWrittenSets, IsLeftIn}
use Rattle.bc_turn.specs.Parts.{WasLeft}
use Rattle.bc_turn.specs.declared.error.Left.{Left}
use Rattle.bc_append.proofs.of_bc_place.Keeping.{keeps_both, keeps_waited}
use Rattle.bc_turn.proofs.Emptying.{start_sets}
use Rattle.bc_turn.proofs.Known.{come_waited, part_waited}
use Rattle.bc_turn.proofs.Parting.{failed_in_part, left_part, sets_part}
use Rattle.bc_turn.proofs.parts.empty_taken.Goals as goal

map_ok : {X : Type 0} (P Q : Option Left → Type 0) (r : Result (Option Left) X)
    → ((o : Option Left) → P o → Q o) → IfOk r P → IfOk r Q
map_ok P Q (Ok o) f h = f o h
map_ok P Q (Err e) f h = tt

map_err : {X : Type 0} (P Q : StepError → Type 0) (r : Result X StepError)
    → ((e : StepError) → P e → Q e) → IfErr r P → IfErr r Q
map_err P Q (Ok o) f h = tt
map_err P Q (Err e) f h = f e h

both_ok : {X : Type 0} (P Q R : Option Left → Type 0) (r : Result (Option Left) X)
    → ((o : Option Left) → P o → Q o → R o) → IfOk r P → IfOk r Q → IfOk r R
both_ok P Q R (Ok o) f h k = f o h k
both_ok P Q R (Err e) f h k = tt

map_some : (P Q : Left → Type 0) (o : Option Left) → ((l : Left) → P l → Q l) → IfSome o P
    → IfSome o Q
map_some P Q None f h = tt
map_some P Q (Some l) f h = f l h

map_none : (P Q : Type 0) (o : Option Left) → (P → Q) → IfNone o P → IfNone o Q
map_none P Q None f h = f h
map_none P Q (Some l) f h = tt

-- a part was taken with nothing in hand, and given back
back_empty : {C B : Type 0} (x y z : Hand C B) → x ≡ record empty { leaves = x.leaves }
    → y ≡ record x { leaves = y.leaves } → z ≡ record y { leaves = None } → z ≡ empty
back_empty {C} {B} x y z a b d = d ∙ ap (λ (h : Hand C B). record h { leaves = None }) b
    ∙ ap (λ (h : Hand C B). record h { leaves = None }) a

pub empty_part-done-requires-clause-come : goal.empty_part-done-requires-clause-come
empty_part-done-requires-clause-come g c = come_waited g.C.Disk.facts g.B.Disk.facts
    c.args.seat.now c.take_part.new.seat c.args.low c.take_part.ensures.waited c.requires.come

pub returns-clause-empty : goal.returns-clause-empty
returns-clause-empty g c = back_empty c.take_part.new.hand c.empty_part-done.new.hand
    c.give_leaves.new.hand c.take_part.ensures.hand c.empty_part-done.ensures.hand
    c.give_leaves.ensures.hand

pub returns-clause-come : goal.returns-clause-come
returns-clause-come g c = come_waited g.C.Disk.facts g.B.Disk.facts
    c.empty_part-done.new.seat c.give_leaves.new.seat c.args.low c.give_leaves.ensures.waited
    c.empty_part-done.ensures.come

pub returns-clause-promises : goal.returns-clause-promises
returns-clause-promises g c =
    let taken = c.take_part.ensures.waited.promises in
    let done = c.empty_part-done.ensures.promises in
    let given = c.give_leaves.ensures.waited.promises in
    omega (arith, taken, done, given)

pub returns-clause-most : goal.returns-clause-most
returns-clause-most g c =
    let taken = c.take_part.ensures.waited.promises in
    let done = c.empty_part-done.ensures.most in
    let given = c.give_leaves.ensures.waited.promises in
    omega (arith, taken, done, given)

pub returns-clause-even : goal.returns-clause-even
returns-clause-even g c =
    let P = c.empty_part-done.new.seat.promises ≡ c.take_part.new.seat.promises in
    let Q = c.give_leaves.new.seat.promises ≡ c.args.seat.now.promises in
    map_ok (λ left. IfNone left P) (λ left. IfNone left Q) c.empty_part-done.result
    (λ left. map_none P Q left (λ same. c.give_leaves.ensures.waited.promises ∙ same
    ∙ c.take_part.ensures.waited.promises)) c.empty_part-done.ensures.even

pub returns-clause-keeps : goal.returns-clause-keeps
returns-clause-keeps g c =
    let cf = g.C.Disk.facts in
    let bf = g.B.Disk.facts in
    keeps_both cf bf c.args.seat.now c.take_part.new.seat c.give_leaves.new.seat
    (keeps_waited cf bf c.args.seat.now c.take_part.new.seat c.requires.works.seat
    c.take_part.ensures.waited)
    (keeps_both cf bf c.take_part.new.seat c.empty_part-done.new.seat c.give_leaves.new.seat
    c.empty_part-done.ensures.keeps (keeps_waited cf bf c.empty_part-done.new.seat
    c.give_leaves.new.seat c.empty_part-done.ensures.works.seat c.give_leaves.ensures.waited))

pub returns-clause-ok : goal.returns-clause-ok
returns-clause-ok g c =
    let cf = g.C.Disk.facts in
    let bf = g.B.Disk.facts in
    let v = c.args.seat.now in
    let p = c.args.parts.now in
    let low = c.args.low in
    map_ok (λ left. HasWrittenSets cf bf p low c.take_part.new.seat c.empty_part-done.new.seat)
    (λ left. HasWrittenSets cf bf p low v c.give_leaves.new.seat) c.empty_part-done.result
    (λ left sets. sets_part cf bf p low v v c.take_part.new.seat c.empty_part-done.new.seat
    c.give_leaves.new.seat (start_sets cf bf p low v c.requires.works.seat)
    c.take_part.ensures.waited c.give_leaves.ensures.waited sets) c.empty_part-done.ensures.ok

pub returns-clause-left : goal.returns-clause-left
returns-clause-left g c =
    let cf = g.C.Disk.facts in
    let bf = g.B.Disk.facts in
    let v = c.args.seat.now in
    let p = c.args.parts.now in
    let low = c.args.low in
    let sectors = (cache_among cf bf c.args.parts.now.run.start).sectors in
    let n = length c.args.parts.now.run.start in
    let x = world cf bf c.empty_part-done.new.seat in
    both_ok (λ left. HasWrittenSets cf bf p low c.take_part.new.seat c.empty_part-done.new.seat)
    (λ left. IfSome left (IsLeftIn c.empty_part-done.new.hand x sectors n low))
    (λ left. IfSome left (WasLeft cf bf p sectors low v c.give_leaves.new.seat))
    c.empty_part-done.result
    (λ left sets is. map_some (IsLeftIn c.empty_part-done.new.hand x sectors n low)
    (WasLeft cf bf p sectors low v c.give_leaves.new.seat) left
    (λ l in_hand. left_part cf bf p low v v c.take_part.new.seat c.empty_part-done.new.seat
    c.give_leaves.new.seat (start_sets cf bf p low v c.requires.works.seat)
    c.take_part.ensures.waited c.give_leaves.ensures.waited sectors c.empty_part-done.new.hand l
    c.empty_part-done.ensures.works sets in_hand) is)
    c.empty_part-done.ensures.ok c.empty_part-done.ensures.left

pub returns-clause-knows : goal.returns-clause-knows
returns-clause-knows g c =
    let cf = g.C.Disk.facts in
    let bf = g.B.Disk.facts in
    let n = length c.args.parts.now.run.start - 6 in
    let part = c.args.part - 6 in
    let P = FromEach (world cf bf c.empty_part-done.new.seat) (PartNeedsFrom n part c.args.low) in
    let Q = FromEach (world cf bf c.give_leaves.new.seat) (PartNeedsFrom n part c.args.low) in
    map_ok (λ left. IfNone left P) (λ left. IfNone left Q) c.empty_part-done.result
    (λ left. map_none P Q left (part_waited cf bf c.empty_part-done.new.seat
    c.give_leaves.new.seat n part c.args.low c.give_leaves.ensures.waited))
    c.empty_part-done.ensures.knows

pub returns-clause-err : goal.returns-clause-err
returns-clause-err g c =
    let cf = g.C.Disk.facts in
    let bf = g.B.Disk.facts in
    let v = c.args.seat.now in
    let p = c.args.parts.now in
    let low = c.args.low in
    map_err (λ e. HasFailed cf bf p low e c.take_part.new.seat c.empty_part-done.new.seat)
    (λ e. HasFailed cf bf p low e v c.give_leaves.new.seat) c.empty_part-done.result
    (λ e failed. failed_in_part cf bf p low v v c.take_part.new.seat c.empty_part-done.new.seat
    c.give_leaves.new.seat (start_sets cf bf p low v c.requires.works.seat)
    c.take_part.ensures.waited c.give_leaves.ensures.waited e c.give_leaves.ensures.heard failed)
    c.empty_part-done.ensures.err
