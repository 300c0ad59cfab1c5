-- Steps one behind the other, and what the seat has of its buckets then.
use Rattle.std.proofs.Common.{◌≡◌, inl, inr, ℕ, ◌+◌, ◌<◌, true, false, List, [], ◌∷◌, ◌++◌, length, take, get_or, Option, Some, None, refl, sym, ap, ◌∙◌, subst, arith}
use Rattle.std.proofs.lemmas.List.{take_more}
use Rattle.std.specs.Prelude.{Contains, Err, Ok, Result, is_some}
use Rattle.bc_alloc.specs.declared.purpose.NoBucket.{NoBucket}
use Rattle.bc_disk.specs.Disk.{DiskFacts}
use Rattle.bc_held.proofs.of_bc_hand.Knowing.{View}
use Rattle.bc_held.specs.Held.{AreOther, IsHeldFor, IsVacantIn}
use Rattle.bc_held.specs.Taken.{HasLetGo, HasTakenOr, IsNewBucket, KeepsHeld, KeepsHeldBut, LetGo, TiesBuckets, TookOr}
use Rattle.bc_held.specs.bc_hand.Seats.{HasNoneBehindBuckets, Kinds, kinds, world}
use Rattle.bc_held.specs.bc_hand.declared.hand.Hand.{Hand}
use Rattle.bc_held.specs.bc_machine.Containers.{SameRest}
use Rattle.bc_held.specs.bc_machine.World.{FromEach, World}
use Rattle.bc_held.specs.bc_machine.declared.part.BucketsPart.{BucketsPart}
use Rattle.bc_held.specs.declared.held.HeldBucket.{HeldBucket}
use Rattle.bc_held.specs.declared.held.Want.{Want}
use Rattle.bc_held_all.proofs.Lists.{in_first, in_push, in_rest}
use Rattle.bc_held_all.specs.All.{AreApart, AreHeld, HaveLetGo, HaveTaken, KeepsHeldApart}
use Rattle.bc_parts.specs.Seat.{Holds}

-- ---- hands

none_of : {X : Type 0} (o : Option X) → is_some o ≡ false → o ≡ None
none_of None is = refl
none_of (Some x) is = absurd (cc)

same_rest : (p : BucketsPart) → SameRest p p
same_rest p = record {
  chain = refl;
  renewing = refl;
  round = refl;
  served = refl;
}

module _ {C B : Type 0} where
  -- the buckets may be taken still
  pub order_stays : (a b : Hand C B) → kinds b ≡ kinds a → b ≡ record a { buckets = b.buckets }
      → (a.buckets ≡ None → HasNoneBehindBuckets a) → b.buckets ≡ None → HasNoneBehindBuckets b
  order_stays a b same rest order none =
      let behind = order (none_of a.buckets
      (sym (ap (λ (k : Kinds). k.buckets) same) ∙ ap is_some none)) in record {
        journal = ap (λ (h : Hand C B). h.journal) rest ∙ behind.journal;
        cache = ap (λ (h : Hand C B). h.cache) rest ∙ behind.cache;
        backing = ap (λ (h : Hand C B). h.backing) rest ∙ behind.backing;
      }

  pub spine_stays : (a b : Hand C B) → kinds b ≡ kinds a → is_some a.spine ≡ true
      → is_some b.spine ≡ true
  spine_stays a b same is = ap (λ (k : Kinds). k.spine) same ∙ is

  pub rest_both : (a b c : Hand C B) → b ≡ record a { buckets = b.buckets }
      → c ≡ record b { buckets = c.buckets } → c ≡ record a { buckets = c.buckets }
  rest_both a b c first second = second
      ∙ ap (λ (h : Hand C B). record h { buckets = c.buckets }) first

  -- ---- the buckets in hand

  pub ties_none : (a : Hand C B) → TiesBuckets a a SameRest
  ties_none a p is = (p, is, same_rest p)

  -- as they were
  pub ties_same : (a b : Hand C B) → b ≡ a → TiesBuckets a b SameRest
  ties_same a b same = subst (λ (h : Hand C B). TiesBuckets a h SameRest) (sym same) (ties_none a)

  pub ties_both : (a b c : Hand C B) → TiesBuckets a b SameRest → TiesBuckets b c SameRest
      → TiesBuckets a c SameRest
  ties_both a b c first second p is =
      let one = first p is in
      let two = second one.0 one.1 in (
        two.0,
        two.1,
        record {
          chain = two.2.chain ∙ one.2.chain;
          renewing = two.2.renewing ∙ one.2.renewing;
          round = two.2.round ∙ one.2.round;
          served = two.2.served ∙ one.2.served;
        },
      )

module _ {C B : Type 0} (cache_facts : C → DiskFacts) (backing_facts : B → DiskFacts) where
  -- what a step says of the buckets in hand
  pub took_rest : (before : ℕ) (x : Want) (r : Result HeldBucket NoBucket) (p q : BucketsPart)
      (v w : View cache_facts backing_facts)
      → TookOr cache_facts backing_facts before x r p q v w → SameRest p q
  took_rest before x (Ok b) p q v w h = h.takes.rest
  took_rest before x (Err none) p q v w h =
      subst (λ (y : BucketsPart). SameRest p y) (sym h.same) (same_rest p)

  pub taken_ties : (before : ℕ) (x : Want) (r : Result HeldBucket NoBucket) (a b : Hand C B)
      (v w : View cache_facts backing_facts)
      → TiesBuckets a b (λ p q. TookOr cache_facts backing_facts before x r p q v w)
      → TiesBuckets a b SameRest
  taken_ties before x r a b v w h p is = let one = h p is in
      (one.0, one.1, took_rest before x r p one.0 v w one.2)

  pub gone_ties : (before : ℕ) (x : HeldBucket) (a b : Hand C B)
      (v w : View cache_facts backing_facts)
      → TiesBuckets a b (λ p q. LetGo cache_facts backing_facts before x p q v w)
      → TiesBuckets a b SameRest
  gone_ties before x a b v w h p is = let one = h p is in (one.0, one.1, one.2.rest)

  -- ---- steps

  pub one_taken : (before : ℕ) (xs : List Want) (bs : List HeldBucket) (x : Want) (b : HeldBucket)
      (u v w : View cache_facts backing_facts) → HaveTaken cache_facts backing_facts before xs bs u v
      → HasTakenOr cache_facts backing_facts before x (Ok b) v w
      → HaveTaken cache_facts backing_facts before (xs ++ x ∷ []) (bs ++ b ∷ []) u w
  one_taken before [] [] x b u v w is more =
      (w, subst (λ y. HasTakenOr cache_facts backing_facts before x (Ok b) y w) is more, refl)
  one_taken before [] (c ∷ cs) x b u v w is more = absurd is
  one_taken before (y ∷ ys) [] x b u v w is more = absurd is
  one_taken before (y ∷ ys) (c ∷ cs) x b u v w is more =
      (is.0, is.1, one_taken before ys cs x b is.0 v w is.2 more)

  pub one_gone : (before : ℕ) (bs : List HeldBucket) (b : HeldBucket)
      (u v w : View cache_facts backing_facts) → HaveLetGo cache_facts backing_facts before bs u v
      → HasLetGo cache_facts backing_facts before b v w
      → HaveLetGo cache_facts backing_facts before (bs ++ b ∷ []) u w
  one_gone before [] b u v w is more =
      (w, subst (λ y. HasLetGo cache_facts backing_facts before b y w) is more, refl)
  one_gone before (c ∷ cs) b u v w is more =
      (is.0, is.1, one_gone before cs b is.0 v w is.2 more)

  -- the one at a place is the next that goes
  pub next_gone : (before : ℕ) (bs : List HeldBucket) (i : ℕ) (b : HeldBucket)
      (u v w : View cache_facts backing_facts) → i < length bs → b ≡ get_or bs i b
      → HaveLetGo cache_facts backing_facts before (take i bs) u v
      → HasLetGo cache_facts backing_facts before b v w
      → HaveLetGo cache_facts backing_facts before (take (i + 1) bs) u w
  next_gone before bs i b u v w inside is went more =
      subst (λ cs. HaveLetGo cache_facts backing_facts before cs u w)
      (ap (λ c. take i bs ++ c ∷ []) is ∙ sym (take_more bs i b inside))
      (one_gone before (take i bs) b u v w went more)

  -- ---- which are others

  pub turn : (x : World) (a b : HeldBucket) → FromEach x (AreOther a b) → FromEach x (AreOther b a)
  turn x a b h o is course same = h o is course (sym same)

  pub apart_on : (bs : List HeldBucket) (v w : View cache_facts backing_facts)
      → ((a b : HeldBucket) → FromEach (world cache_facts backing_facts v) (AreOther a b)
      → FromEach (world cache_facts backing_facts w) (AreOther a b))
      → AreApart cache_facts backing_facts bs v → AreApart cache_facts backing_facts bs w
  apart_on [] v w on h = tt
  apart_on (b ∷ bs) v w on h = ((λ c there. on c b (h.0 c there)), apart_on bs v w on h.1)

  apart_push : (bs : List HeldBucket) (b : HeldBucket) (w : View cache_facts backing_facts)
      → AreApart cache_facts backing_facts bs w
      → ((c : HeldBucket) → Contains bs c
      → FromEach (world cache_facts backing_facts w) (AreOther b c))
      → AreApart cache_facts backing_facts (bs ++ b ∷ []) w
  apart_push [] b w h other = (
    (λ c there. absurd (let inside = there.1 in omega (arith, inside))),
    tt,
  )
  apart_push (c ∷ cs) b w h other = (
    (λ d there. elim (in_push cs b d there) [
      | inl before ↦ h.0 d before
      | inr last ↦ subst (λ e. FromEach (world cache_facts backing_facts w) (AreOther e c))
          (sym last) (other c (in_first c cs))
    ]),
    apart_push cs b w h.1 (λ d there. other d (in_rest c cs d there)),
  )

  -- ---- one more is held

  pub held_more : (bs : List HeldBucket) (b : HeldBucket) (v w : View cache_facts backing_facts)
      → Holds v.parts 0 → AreHeld cache_facts backing_facts bs v
      → KeepsHeld cache_facts backing_facts v w
      → FromEach (world cache_facts backing_facts w) (IsHeldFor w.first b)
      → FromEach (world cache_facts backing_facts w) (IsVacantIn b)
      → IsNewBucket cache_facts backing_facts b v w
      → AreHeld cache_facts backing_facts (bs ++ b ∷ []) w
  held_more bs b v w spine h keeps mine vacant new = record {
    held = λ c there. elim (in_push bs b c there) [
      | inl before ↦ keeps.held c tt (h.held c before)
      | inr last ↦ subst (λ d. FromEach (world cache_facts backing_facts w) (IsHeldFor w.first d))
          (sym last) mine
    ];
    vacant = λ c there. elim (in_push bs b c there) [
      | inl before ↦ keeps.vacant spine c (h.vacant c before)
      | inr last ↦ subst (λ d. FromEach (world cache_facts backing_facts w) (IsVacantIn d))
          (sym last) vacant
    ];
    apart = apart_push bs b w (apart_on bs v w keeps.other h.apart)
        (λ c there. new c (h.held c there));
  }

  -- all of them are none that it held before
  abbrev pub AreNew : List HeldBucket → View cache_facts backing_facts
      → View cache_facts backing_facts → Type 0
  AreNew bs u v = (b : HeldBucket) → Contains bs b → IsNewBucket cache_facts backing_facts b u v

  pub new_on : (bs : List HeldBucket) (u v w : View cache_facts backing_facts)
      → ((a b : HeldBucket) → FromEach (world cache_facts backing_facts v) (AreOther a b)
      → FromEach (world cache_facts backing_facts w) (AreOther a b))
      → AreNew bs u v → AreNew bs u w
  new_on bs u v w on h b there a held = on b a (h b there a held)

  pub new_more : (bs : List HeldBucket) (b : HeldBucket) (u v w : View cache_facts backing_facts)
      → AreNew bs u v → KeepsHeld cache_facts backing_facts u v
      → KeepsHeld cache_facts backing_facts v w → IsNewBucket cache_facts backing_facts b v w
      → AreNew (bs ++ b ∷ []) u w
  new_more bs b u v w h first keeps new c there a held = elim (in_push bs b c there) [
    | inl before ↦ keeps.other c a (h c before a held)
    | inr last ↦ subst (λ d. FromEach (world cache_facts backing_facts w) (AreOther d a))
        (sym last) (new a (first.held a tt held))
  ]

  pub keeps_both : (u v w : View cache_facts backing_facts)
      → Holds v.parts 0 → KeepsHeld cache_facts backing_facts u v
      → KeepsHeld cache_facts backing_facts v w → KeepsHeld cache_facts backing_facts u w
  keeps_both u v w there a b = record {
    held = λ c other h. b.held c tt (a.held c tt h);
    vacant = λ spine c h. b.vacant there c (a.vacant spine c h);
    other = λ c d h. b.other c d (a.other c d h);
  }

  -- they are held while one isn't taken
  pub held_on : (bs : List HeldBucket) (v w : View cache_facts backing_facts) → Holds v.parts 0
      → AreHeld cache_facts backing_facts bs v → KeepsHeld cache_facts backing_facts v w
      → AreHeld cache_facts backing_facts bs w
  held_on bs v w spine h keeps = record {
    held = λ b there. keeps.held b tt (h.held b there);
    vacant = λ b there. keeps.vacant spine b (h.vacant b there);
    apart = apart_on bs v w keeps.other h.apart;
  }

  -- ---- one less is held

  pub held_less : (b : HeldBucket) (bs : List HeldBucket) (v w : View cache_facts backing_facts)
      → Holds v.parts 0 → AreHeld cache_facts backing_facts (b ∷ bs) v
      → KeepsHeldBut cache_facts backing_facts (Some b) v w
      → AreHeld cache_facts backing_facts bs w
  held_less b bs v w spine h keeps = record {
    held = λ c there. keeps.held c
        (turn (world cache_facts backing_facts v) c b (h.apart.0 c there))
        (h.held c (in_rest b bs c there));
    vacant = λ c there. keeps.vacant spine c (h.vacant c (in_rest b bs c there));
    apart = apart_on bs v w keeps.other h.apart.1;
  }

  pub keeps_first : (bs : List HeldBucket) (v : View cache_facts backing_facts)
      → KeepsHeldApart cache_facts backing_facts bs v v
  keeps_first bs v = record {
    held = λ a apart h. h;
    vacant = λ spine a h. h;
    other = λ a b h. h;
  }

  pub keeps_gone : (bs : List HeldBucket) (b : HeldBucket) (u v w : View cache_facts backing_facts)
      → Holds v.parts 0 → Contains bs b → KeepsHeldApart cache_facts backing_facts bs u v
      → KeepsHeldBut cache_facts backing_facts (Some b) v w
      → KeepsHeldApart cache_facts backing_facts bs u w
  keeps_gone bs b u v w tree there f g = record {
    held = λ a apart h. g.held a (f.other b a (apart b there)) (f.held a apart h);
    vacant = λ spine a h. g.vacant tree a (f.vacant spine a h);
    other = λ c d h. g.other c d (f.other c d h);
  }

  -- what it held before is none of those that went
  pub kept_apart : (bs : List HeldBucket) (u v w : View cache_facts backing_facts)
      → Holds v.parts 0 → KeepsHeld cache_facts backing_facts u v → AreNew bs u v
      → KeepsHeldApart cache_facts backing_facts bs v w → KeepsHeld cache_facts backing_facts u w
  kept_apart bs u v w tree first new last = record {
    held = λ a other h. last.held a (λ b there. new b there a h) (first.held a tt h);
    vacant = λ spine a h. last.vacant tree a (first.vacant spine a h);
    other = λ a b h. last.other a b (first.other a b h);
  }
