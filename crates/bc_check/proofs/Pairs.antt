-- What holds of the pair that two devices hold, which were read several times.
use Rattle.std.proofs.Common.{◌≡◌, ℕ, Bool, true, false, Option, Some, None, refl, sym, subst, ap, ◌∙◌}
use Rattle.std.specs.Bool.{MatchBool}
use Rattle.std.specs.Prelude.{Result, Ok, Err, IfErr, IsErrAnd}
use Rattle.bc_disk.specs.Device.{next_count}
use Rattle.bc_disk.specs.declared.disk.Device.TheVariants as device
use Rattle.bc_disk.specs.Disk.{DiskFacts, IfTold, BothTold}
use Rattle.bc_image.specs.Pair.{Pair}
use Rattle.bc_model.specs.Sector.{Image}
use Rattle.bc_pair.specs.Found.{pair_of}
use Rattle.bc_prio.proofs.Chains.{kept_both, kept_all}
use Rattle.bc_replay.specs.Causes.{OfHeld}
use Rattle.bc_check.specs.Calls.{BothKept, CountsFault, NoneFailed}
use Rattle.bc_check.specs.declared.verdict.CheckError.{CheckError}
use Rattle.bc_check.specs.declared.verdict.CheckError.TheVariants as checks

pub both_kept : (a b c : DiskFacts) (x y z : DiskFacts) → BothKept a b x y → BothKept b c y z → BothKept a c x z
both_kept a b c x y z first then = record { cache_kept = kept_both a b c first.cache_kept then.cache_kept; backing_kept = kept_both x y z first.backing_kept then.backing_kept }

pub all_kept : (a x : DiskFacts) → BothKept a a x x
all_kept a x = record { cache_kept = kept_all a; backing_kept = kept_all x }

-- what is said of the pair behind some reads is said of it before them
pub held_back : (P : Pair → Type 0) (cache cache' backing backing' : DiskFacts) → BothKept cache cache' backing backing' → OfHeld P cache' backing' → OfHeld P cache backing
held_back P cache cache' backing backing' kept held = go cache.holds cache'.holds backing.holds backing'.holds kept.cache_kept.holds kept.backing_kept.holds held
  where
    go : (x y u w : Option Image) → BothTold (λ (p q : Image). (s : ℕ) → q s ≡ p s) x y → BothTold (λ (p q : Image). (s : ℕ) → q s ≡ p s) u w
        → IfTold y (λ c. IfTold w (λ b. P (pair_of cache' backing' c b))) → IfTold x (λ c. IfTold u (λ b. P (pair_of cache backing c b)))
    go None y u w caches backings held = tt
    go (Some c) None u w caches backings held = elim caches [ ]
    go (Some c) (Some d) None w caches backings held = tt
    go (Some c) (Some d) (Some b) None caches backings held = elim backings [ ]
    go (Some c) (Some d) (Some b) (Some e) caches backings held =
        let same : pair_of cache' backing' d e ≡ pair_of cache backing c b =
        (λ i. record { cache = λ s. caches s i; cache_sectors = kept.cache_kept.sectors i; backing = λ s. backings s i; backing_sectors = kept.backing_kept.sectors i }) in
        subst P same held

pub held_map : (P Q : Pair → Type 0) (cache backing : DiskFacts) → ((p : Pair) → p.cache_sectors ≡ cache.sectors → p.backing_sectors ≡ backing.sectors → P p → Q p) → OfHeld P cache backing → OfHeld Q cache backing
held_map P Q cache backing so held = go cache.holds backing.holds held
  where
    go : (x y : Option Image) → IfTold x (λ c. IfTold y (λ b. P (pair_of cache backing c b))) → IfTold x (λ c. IfTold y (λ b. Q (pair_of cache backing c b)))
    go None y held = tt
    go (Some c) None held = tt
    go (Some c) (Some b) held = so (pair_of cache backing c b) refl refl held

pub held_two : (P Q R : Pair → Type 0) (cache backing : DiskFacts) → ((p : Pair) → P p → Q p → R p) → OfHeld P cache backing → OfHeld Q cache backing → OfHeld R cache backing
held_two P Q R cache backing so one other = go cache.holds backing.holds one other
  where
    go : (x y : Option Image) → IfTold x (λ c. IfTold y (λ b. P (pair_of cache backing c b))) → IfTold x (λ c. IfTold y (λ b. Q (pair_of cache backing c b))) → IfTold x (λ c. IfTold y (λ b. R (pair_of cache backing c b)))
    go None y one other = tt
    go (Some c) None one other = tt
    go (Some c) (Some b) one other = so (pair_of cache backing c b) one other

-- what is said of the image of the cache device is said of the pair
pub held_cache : (C : Image → Type 0) (cache backing : DiskFacts) → IfTold cache.holds C → OfHeld (λ p. C p.cache) cache backing
held_cache C cache backing told = go cache.holds backing.holds told
  where
    go : (x y : Option Image) → IfTold x C → IfTold x (λ c. IfTold y (λ b. C c))
    go None y told = tt
    go (Some c) None told = tt
    go (Some c) (Some b) told = told

-- it is said of whatever pair
pub held_any : (P : Pair → Type 0) (cache backing : DiskFacts) → ((p : Pair) → p.cache_sectors ≡ cache.sectors → p.backing_sectors ≡ backing.sectors → P p) → OfHeld P cache backing
held_any P cache backing so = go cache.holds backing.holds
  where
    go : (x y : Option Image) → IfTold x (λ c. IfTold y (λ b. P (pair_of cache backing c b)))
    go None y = tt
    go (Some c) None = tt
    go (Some c) (Some b) = so (pair_of cache backing c b) refl refl

-- ---- what holds of the image that one device holds

pub told_two : (P Q R : Image → Type 0) (o : Option Image) → ((image : Image) → P image → Q image → R image) → IfTold o P → IfTold o Q → IfTold o R
told_two P Q R None so p q = tt
told_two P Q R (Some image) so p q = so image p q

pub told_map : (P Q : Image → Type 0) (o : Option Image) → ((image : Image) → P image → Q image) → IfTold o P → IfTold o Q
told_map P Q None so p = tt
told_map P Q (Some image) so p = so image p

pub told_any : (P : Image → Type 0) (o : Option Image) → ((image : Image) → P image) → IfTold o P
told_any P None so = tt
told_any P (Some image) so = so image

-- ---- choices

pub match_as : (b : Bool) (P Q : Type 0) → (P → Q) → (Q → P) → MatchBool b P (¬ P) → MatchBool b Q (¬ Q)
match_as true P Q to from p = to p
match_as false P Q to from p = λ q. p (from q)

-- ---- faults

-- an error that is passed on
pub passed_on : {T : Type 0} (r : Result T CheckError) (e : CheckError) (Q : CheckError → Type 0) → IsErrAnd r (λ x. x ≡ e) → Q e → IfErr r Q
passed_on (Ok x) e Q is holds = tt
passed_on (Err x) e Q is holds = subst Q (sym is) holds

-- behind calls of which none failed
pub counts_behind : (e : CheckError) (a b c x y z : DiskFacts) → NoneFailed a b x y → CountsFault e b c y z → CountsFault e a c x z
counts_behind (checks.Fault device.Cache) a b c x y z none counts = (counts.0 ∙ ap next_count none.0, counts.1 ∙ none.1)
counts_behind (checks.Fault device.Backing) a b c x y z none counts = (counts.0 ∙ none.0, counts.1 ∙ ap next_count none.1)
counts_behind (checks.Open why) a b c x y z none counts = (counts.0 ∙ none.0, counts.1 ∙ none.1)
counts_behind checks.Memory a b c x y z none counts = (counts.0 ∙ none.0, counts.1 ∙ none.1)
