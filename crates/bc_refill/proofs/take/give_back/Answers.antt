use Rattle.std.proofs.Common.{◌≡◌, List, [], ◌∷◌, ◌++◌, length, Some, refl, sym, ap, ◌∙◌, subst, arith}
use Rattle.std.proofs.lemmas.List.{append-nil, append_assoc, length-append}
use Rattle.std.specs.Prelude.{is_some, reverse, slice_get}
use Rattle.bc_new_chain.proofs.Keeping.{holds_on}
use Rattle.bc_new_chain.proofs.of_bc_chain.of_bc_place.Keeping.{keeps_both as places_both}
use Rattle.bc_new_chain.proofs.of_bc_chain.of_bc_place.Storing.{keeps_nothing}
use Rattle.bc_new_chain.specs.bc_hand.Seats.{Kinds}
use Rattle.bc_new_chain.specs.bc_held.Taken.{TiesBuckets}
use Rattle.bc_new_chain.specs.bc_held.declared.held.HeldBucket.{HeldBucket}
use Rattle.bc_refill.proofs.Going.{rest_then, tied_same}
use Rattle.bc_refill.proofs.Holding.{beside_all_on, beside_less, beside_none, mine_less}
use Rattle.bc_refill.proofs.Lists.{last_there, still_there}
use Rattle.bc_refill.proofs.Taking.{stopped_going, tied_less}
use Rattle.bc_refill.specs.Taken.{AreMine, HaveLetGo}
use Rattle.bc_refill.proofs.take.give_back.Goals as goal

empty_of : (bs : List HeldBucket) → length bs ≡ 0 → bs ≡ []
empty_of [] is = refl
empty_of (b ∷ bs) is = absurd (omega (arith, is))

pub loop-bucket-init : goal.loop-bucket-init
loop-bucket-init g c =
    let cf = g.C.Disk.facts in
    let bf = g.B.Disk.facts in
    let h = c.args.hand.now in
    let v = c.args.seat.now in (
      [],
      sym (append-nil c.args.taken.now.items),
      c.requires.works,
      refl,
      refl,
      c.requires.buckets,
      c.requires.before,
      tied_same h (λ p q. HaveLetGo cf bf c.args.before [] p q v v) (λ p. (refl, refl)),
      c.requires.mine,
      omega arith,
      keeps_nothing cf bf v c.requires.works.seat,
      beside_none cf bf c.args.taken.now.items v,
    )

pub let_go_bucket-requires-clause-promise : goal.let_go_bucket-requires-clause-promise
let_go_bucket-requires-clause-promise g c =
    let l = c.loop-bucket in
    let all = ap (λ (bs : List HeldBucket). length bs) l.invariant.1
    ∙ length-append l.taken.items l.invariant.0 in
    let one = ap (λ (bs : List HeldBucket). length bs) c.in-Some.ensures.items
    ∙ length-append c.pop.new.self.items (c.in-Some.bucket ∷ []) in
    let left = l.invariant.9 in
    let most = c.requires.promise in
    omega (arith, all, one, left, most)

pub let_go_bucket-requires-clause-held : goal.let_go_bucket-requires-clause-held
let_go_bucket-requires-clause-held g c =
    let l = c.loop-bucket in
    (subst (λ (bs : List HeldBucket). AreMine g.C.Disk.facts g.B.Disk.facts bs l.seat)
    c.in-Some.ensures.items l.invariant.8).held (length c.pop.new.self.items) c.in-Some.bucket
    (last_there c.pop.new.self.items c.in-Some.bucket)

pub let_go_bucket-requires-clause-order : goal.let_go_bucket-requires-clause-order
let_go_bucket-requires-clause-order g c = λ none.
    let some = c.loop-bucket.invariant.5 in
    let off = ap is_some none in absurd (cc)

pub let_go_bucket-requires-clause-tree : goal.let_go_bucket-requires-clause-tree
let_go_bucket-requires-clause-tree g c = λ tree.
    let l = c.loop-bucket in
    let its = (subst (λ (bs : List HeldBucket). AreMine g.C.Disk.facts g.B.Disk.facts bs l.seat)
    c.in-Some.ensures.items l.invariant.8).purpose (length c.pop.new.self.items) c.in-Some.bucket
    (last_there c.pop.new.self.items c.in-Some.bucket) in absurd (cc)

pub let_go_bucket-requires-clause-vacant : goal.let_go_bucket-requires-clause-vacant
let_go_bucket-requires-clause-vacant g c = λ tree.
    let l = c.loop-bucket in
    let its = (subst (λ (bs : List HeldBucket). AreMine g.C.Disk.facts g.B.Disk.facts bs l.seat)
    c.in-Some.ensures.items l.invariant.8).purpose (length c.pop.new.self.items) c.in-Some.bucket
    (last_there c.pop.new.self.items c.in-Some.bucket) in absurd (cc)

pub returns-in-Err-clause-err : goal.returns-in-Err-clause-err
returns-in-Err-clause-err g c =
    let l = c.loop-bucket in
    stopped_going g.C.Disk.facts g.B.Disk.facts c.args.before c.in-Err.error
    c.args.taken.now.items l.taken.items l.invariant.0 c.args.hand.now l.hand
    c.let_go_bucket.new.hand c.args.seat.now l.seat c.let_go_bucket.new.seat l.invariant.1
    c.in-Err.ensures.same c.in-Err.ensures.err c.in-Err.ensures.cause l.invariant.7

pub returns-in-Err-clause-kinds : goal.returns-in-Err-clause-kinds
returns-in-Err-clause-kinds g c = c.let_go_bucket.ensures.hand ∙ c.loop-bucket.invariant.3

pub returns-in-Err-clause-rest : goal.returns-in-Err-clause-rest
returns-in-Err-clause-rest g c = rest_then c.args.hand.now c.loop-bucket.hand
    c.let_go_bucket.new.hand c.loop-bucket.invariant.4 c.let_go_bucket.ensures.rest

pub returns-in-Err-clause-left : goal.returns-in-Err-clause-left
returns-in-Err-clause-left g c =
    let l = c.loop-bucket in
    let all = ap (λ (bs : List HeldBucket). length bs) l.invariant.1
    ∙ length-append l.taken.items l.invariant.0 in
    let left = l.invariant.9 in
    let same = c.in-Err.ensures.err.is.promises in
    omega (arith, all, left, same)

pub returns-in-Err-clause-keeps : goal.returns-in-Err-clause-keeps
returns-in-Err-clause-keeps g c = places_both g.C.Disk.facts g.B.Disk.facts c.args.seat.now
    c.loop-bucket.seat c.let_go_bucket.new.seat c.loop-bucket.invariant.10
    c.let_go_bucket.ensures.places

pub returns-in-Err-clause-held : goal.returns-in-Err-clause-held
returns-in-Err-clause-held g c =
    let cf = g.C.Disk.facts in
    let bf = g.B.Disk.facts in
    let l = c.loop-bucket in
    beside_all_on cf bf c.args.taken.now.items c.args.seat.now l.seat c.let_go_bucket.new.seat
    (holds_on cf bf c.args.parts.now c.args.seat.now l.seat c.args.hand.now l.hand
    c.requires.works l.invariant.2 l.invariant.3) l.invariant.2.seat c.in-Err.ensures.err
    l.invariant.11

pub loop-bucket-preserved : goal.loop-bucket-preserved
loop-bucket-preserved g c =
    let cf = g.C.Disk.facts in
    let bf = g.B.Disk.facts in
    let l = c.loop-bucket in
    let b = c.in-Some.bucket in
    let xs = c.pop.new.self.items in
    let ys = l.invariant.0 in
    let w = c.let_go_bucket.new.seat in
    let k = c.let_go_bucket.new.hand in
    let items = c.in-Some.ensures.items in
    let before = l.invariant.1 in
    let are = before ∙ ap (λ (bs : List HeldBucket). bs ++ ys) items
    ∙ append_assoc xs (b ∷ []) ys in
    let left = l.invariant.9 in
    let spent = c.let_go_bucket.ensures.left in
    let mine = subst (λ (bs : List HeldBucket). AreMine cf bf bs l.seat) items l.invariant.8 in
    let ok = c.in-Ok.ensures in (
      b ∷ ys,
      are,
      c.let_go_bucket.ensures.works,
      c.let_go_bucket.ensures.hand ∙ l.invariant.3,
      rest_then c.args.hand.now l.hand k l.invariant.4 c.let_go_bucket.ensures.rest,
      ap (λ (x : Kinds). x.buckets) c.let_go_bucket.ensures.hand ∙ l.invariant.5,
      c.let_go_bucket.ensures.places.opening.before c.args.before l.invariant.6,
      tied_less cf bf c.args.before ys b c.args.hand.now l.hand k c.args.seat.now l.seat w
          l.invariant.7 ok.part,
      mine_less cf bf xs b l.seat w c.let_go_bucket.ensures.keeps mine,
      omega (arith, left, spent),
      places_both cf bf c.args.seat.now l.seat w l.invariant.10 c.let_go_bucket.ensures.places,
      beside_less cf bf c.args.taken.now.items (length xs) b c.args.seat.now l.seat w
          (holds_on cf bf c.args.parts.now c.args.seat.now l.seat c.args.hand.now l.hand
          c.requires.works l.invariant.2 l.invariant.3)
          (subst (λ (bs : List HeldBucket). slice_get bs (length xs) ≡ Some b) (sym before)
          (subst (λ (bs : List HeldBucket). slice_get (bs ++ ys) (length xs) ≡ Some b) (sym items)
          (still_there (xs ++ b ∷ []) ys b (length xs) (last_there xs b))))
          c.requires.mine c.let_go_bucket.ensures.keeps l.invariant.11,
    )

pub returns-clause-ok : goal.returns-clause-ok
returns-clause-ok g c =
    let cf = g.C.Disk.facts in
    let bf = g.B.Disk.facts in
    let l = c.loop-bucket in
    let none = empty_of l.taken.items (let n = c.in_default.ensures.cases.0 in
    let long = l.taken.ok.0 in omega (arith, n, long)) in
    let are = l.invariant.1 ∙ ap (λ (bs : List HeldBucket). bs ++ l.invariant.0) none in
    subst (λ (bs : List HeldBucket). TiesBuckets c.args.hand.now l.hand (λ p q. HaveLetGo cf bf
    c.args.before (reverse bs) p q c.args.seat.now l.seat)) (sym are) l.invariant.7

pub returns-clause-left : goal.returns-clause-left
returns-clause-left g c =
    let l = c.loop-bucket in
    let all = ap (λ (bs : List HeldBucket). length bs) l.invariant.1
    ∙ length-append l.taken.items l.invariant.0 in
    let left = l.invariant.9 in
    omega (arith, all, left)
