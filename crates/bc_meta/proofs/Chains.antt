-- A chain rests on its buckets alone, and sets that were made well are read as a chain.
use Rattle.std.proofs.Common.{◌≡◌, ◌≢◌, ◌⊎◌, inl, inr, ℕ, zero, suc, ◌+◌, ◌<◌, ◌≤◌, Bool, true, false, List, [], ◌∷◌, ◌++◌, length, Option, Some, None, refl, sym, ap, ◌∙◌, subst, arith, if◌then◌else◌, ◌&&◌, nat_le}
use Rattle.bc_model.specs.Sector.{Image, Value}
use Rattle.bc_disk.specs.Device.{Content, MayLeave, Only, settled}
use Rattle.bc_meta.specs.Facts.{In}
use Rattle.bc_meta.specs.Layout.{Layout, PrioSet}
use Rattle.bc_meta.specs.Chain.{Chain, Distinct, EachOf, Leads, chain_from, chain_in, is_place, prio_at, prio_in, put_prio, with_prio}
use Rattle.bc_meta.specs.Records.{Fixed, IsReady, Nothing, Ready, Safe, Sent, Stage, after_barrier}
use Rattle.bc_meta.specs.Acts.{IsBuilt, Made}
use Rattle.bc_meta.specs.Laws.{LawChain}
use Rattle.bc_meta.proofs.Lists.{by_test, by_le}
use Rattle.bc_meta.proofs.Runs.{at_miss}
use Rattle.bc_meta.proofs.Firm.{FirmOn, Off, firm_kept, firm_settled, ReadsOn, reads_kept, over_value, laid, laid_has, laid_firm}
use Rattle.bc_meta.proofs.Steps.{firm_there}

-- both images have the same in each of these buckets
abbrev pub SameIn : Layout → Image → Image → List ℕ → Type 0
SameIn w c d qs = (q t : ℕ) → In q qs → w.first q ≤ t → t < w.first q + w.bucket_sectors → c t ≡ d t

pub set_stays : (w : Layout) (c d : Image) (part q : ℕ) (e : PrioSet) → ((t : ℕ) → w.first q ≤ t → t < w.first q + w.bucket_sectors → c t ≡ d t) → prio_in w c part q ≡ Some e → prio_in w d part q ≡ Some e
set_stays w c d part q e same = go (is_place w q)
  where
    go : (b : Bool) → (if b then prio_at w c part q else None) ≡ Some e → (if b then prio_at w d part q else None) ≡ Some e
    go true h = w.prios.stays c d part (w.first q + w.bucket_sectors) (w.first q) e h (λ t ge lt. let n = w.fills e in same t ge (omega arith))
    go false h = absurd (cc)

some_chain : (a b : Chain) → Some a ≡ Some b → a ≡ b
some_chain a b e = cc

pub chain_stays : (w : Layout) (c d : Image) (n part q : ℕ) (ch : Chain) → SameIn w c d ch.buckets → chain_from w c n part q ≡ Some ch → chain_from w d n part q ≡ Some ch
chain_stays w c d zero part q ch same h = h
chain_stays w c d (suc n) part q ch same h = at_set (λ f r. chain_stays w c d n (suc part) f r) (prio_in w c part q) refl h
  where
    at_rest : ((f : ℕ) (r : Chain) → SameIn w c d r.buckets → chain_from w c n (suc part) f ≡ Some r → chain_from w d n (suc part) f ≡ Some r)
        → (e : PrioSet) (r : Option Chain) → prio_in w c part q ≡ Some e → chain_from w c n (suc part) e.next ≡ r → put_prio q e.gens r ≡ Some ch → with_prio (chain_from w d n (suc part)) q (prio_in w d part q) ≡ Some ch
    at_rest ih e None is at k = absurd (cc)
    at_rest ih e (Some r) is at k =
        let qs : q ∷ r.buckets ≡ ch.buckets = ap (λ (x : Chain). x.buckets) (some_chain (record { buckets = q ∷ r.buckets; gens = e.gens ++ r.gens }) ch k) in
        let here = set_stays w c d part q e (λ t ge lt. same q t (subst (λ (l : List ℕ). In q l) qs (inl refl)) ge lt) is in
        let rest = ih e.next r (λ b t i ge lt. same b t (subst (λ (l : List ℕ). In b l) qs (inr i)) ge lt) at in
        ap (λ (o : Option PrioSet). with_prio (chain_from w d n (suc part)) q o) here ∙ ap (λ (o : Option Chain). put_prio q e.gens o) rest ∙ k

    at_set : ((f : ℕ) (r : Chain) → SameIn w c d r.buckets → chain_from w c n (suc part) f ≡ Some r → chain_from w d n (suc part) f ≡ Some r)
        → (o : Option PrioSet) → prio_in w c part q ≡ o → with_prio (chain_from w c n (suc part)) q o ≡ Some ch → with_prio (chain_from w d n (suc part)) q (prio_in w d part q) ≡ Some ch
    at_set ih None is k = absurd (cc)
    at_set ih (Some e) is k = at_rest ih e (chain_from w c n (suc part) e.next) is refl k

place_of : (w : Layout) (q : ℕ) → is_place w q ≡ true → (w.journal ≤ q) × (q < w.buckets)
place_of w q =
    by_le w.journal q (λ b. (b && nat_le (suc q) w.buckets) ≡ true → (w.journal ≤ q) × (q < w.buckets))
    (λ le. by_le (suc q) w.buckets (λ b. b ≡ true → (w.journal ≤ q) × (q < w.buckets)) (λ lt _. (le, lt)) (λ _ h. absurd (cc)))
    (λ _ h. absurd (cc))

pub is_placed : (w : Layout) (q : ℕ) → w.journal ≤ q → q < w.buckets → is_place w q ≡ true
is_placed w q le lt =
    by_le w.journal q (λ b. (b && nat_le (suc q) w.buckets) ≡ true)
    (λ _. by_le (suc q) w.buckets (λ b. b ≡ true) (λ _. refl) (λ no_. absurd (omega arith))) (λ no_. absurd (omega arith))

placed_set : (w : Layout) (c : Image) (part q : ℕ) (e : PrioSet) → prio_in w c part q ≡ Some e → is_place w q ≡ true
placed_set w c part q e = go (is_place w q)
  where
    go : (b : Bool) → (if b then prio_at w c part q else None) ≡ Some e → b ≡ true
    go true h = refl
    go false h = absurd (cc)

-- each bucket of a chain that is read is one behind the journal's, and there are as many as sets
pub chain_places : (w : Layout) (c : Image) (n part q : ℕ) (ch : Chain) → chain_from w c n part q ≡ Some ch → EachOf (λ x. (w.journal ≤ x) × (x < w.buckets)) ch.buckets × (length ch.buckets ≡ n)
chain_places w c zero part q ch = by_test q 0 (λ b. (if b then Some (record { buckets = []; gens = [] }) else None) ≡ Some ch → EachOf (λ x. (w.journal ≤ x) × (x < w.buckets)) ch.buckets × (length ch.buckets ≡ 0))
    (λ _ h. let is : [] ≡ ch.buckets = ap (λ (x : Chain). x.buckets) (some_chain (record { buckets = []; gens = [] }) ch h) in (subst (λ (l : List ℕ). EachOf (λ x. (w.journal ≤ x) × (x < w.buckets)) l) is (λ x i. absurd i), ap (λ (l : List ℕ). length l) (sym is)))
    (λ _ h. absurd (cc))
chain_places w c (suc n) part q ch = at_set (λ f r. chain_places w c n (suc part) f r) (prio_in w c part q) refl
  where
    at_rest : ((f : ℕ) (r : Chain) → chain_from w c n (suc part) f ≡ Some r → EachOf (λ x. (w.journal ≤ x) × (x < w.buckets)) r.buckets × (length r.buckets ≡ n)) → (e : PrioSet) (r : Option Chain) → prio_in w c part q ≡ Some e → chain_from w c n (suc part) e.next ≡ r → put_prio q e.gens r ≡ Some ch → EachOf (λ x. (w.journal ≤ x) × (x < w.buckets)) ch.buckets × (length ch.buckets ≡ suc n)
    at_rest ih e None is at k = absurd (cc)
    at_rest ih e (Some r) is at k =
        let qs : q ∷ r.buckets ≡ ch.buckets = ap (λ (x : Chain). x.buckets) (some_chain (record { buckets = q ∷ r.buckets; gens = e.gens ++ r.gens }) ch k) in
        let rest = ih e.next r at in
        let here = place_of w q (placed_set w c part q e is) in (
          subst (λ (l : List ℕ). EachOf (λ x. (w.journal ≤ x) × (x < w.buckets)) l) qs
              (λ x i. elim i [ inl e2 ↦ subst (λ (y : ℕ). (w.journal ≤ y) × (y < w.buckets)) (sym e2) here | inr j ↦ rest.0 x j ]),
          ap (λ (l : List ℕ). length l) (sym qs) ∙ ap suc rest.1,
        )

    at_set : ((f : ℕ) (r : Chain) → chain_from w c n (suc part) f ≡ Some r → EachOf (λ x. (w.journal ≤ x) × (x < w.buckets)) r.buckets × (length r.buckets ≡ n)) → (o : Option PrioSet) → prio_in w c part q ≡ o → with_prio (chain_from w c n (suc part)) q o ≡ Some ch → EachOf (λ x. (w.journal ≤ x) × (x < w.buckets)) ch.buckets × (length ch.buckets ≡ suc n)
    at_set ih None is k = absurd (cc)
    at_set ih (Some e) is k = at_rest ih e (chain_from w c n (suc part) e.next) is refl k

-- A chain that stands on a device: what a read may give and what a crash may leave is one image in its buckets, which reads so.
abbrev pub Stands : Layout → Content → ℕ → List ℕ → List ℕ → Type 0
Stands w d first qs gens =
    (z : Image) × (chain_in w z first ≡ Some (record { buckets = qs; gens = gens })) × EachOf (λ q. FirmOn d z (w.first q) (w.first q + w.bucket_sectors)) qs

-- by the stage of the entry that names it: read so, and from the first barrier on left so
abbrev pub StandsBy : Layout → Content → ℕ → List ℕ → List ℕ → Stage → Type 0
StandsBy w d first qs gens Nothing = Unit {0}
StandsBy w d first qs gens Fixed = Stands w (settled d) first qs gens
StandsBy w d first qs gens Ready = Stands w d first qs gens
StandsBy w d first qs gens Sent = Stands w d first qs gens
StandsBy w d first qs gens Safe = Stands w d first qs gens

-- an event leaves a range alone, or is a barrier
abbrev pub Calm : Content → Content → ℕ → ℕ → Type 0
Calm old new a b = (new ≡ settled old) ⊎ ((t : ℕ) → a ≤ t → t < b → Off old new t)

pub firm_calm : (old new : Content) (z : Image) (a b : ℕ) → Calm old new a b → FirmOn old z a b → FirmOn new z a b
firm_calm old new z a b (inl is) f = subst (λ (d : Content). FirmOn d z a b) (sym is) (firm_settled old z a b f)
firm_calm old new z a b (inr off) f = firm_kept old new z a b off f

settled_calm : (old new : Content) (a b : ℕ) → Calm old new a b → Calm (settled old) (settled new) a b
settled_calm old new a b (inl is) = inl (ap settled is)
settled_calm old new a b (inr off) = inr (λ t ge lt. let k = off t ge lt in (k.0, k.0))

pub reads_calm : (old new : Content) (p : ℕ) (vs : List Value) → Calm old new p (p + length vs) → ReadsOn old p vs → ReadsOn new p vs
reads_calm old new p vs (inl is) h = subst (λ (d : Content). ReadsOn d p vs) (sym is) h
reads_calm old new p vs (inr off) h = reads_kept old new p vs off h

abbrev pub CalmIn : Layout → Content → Content → ℕ → Type 0
CalmIn w old new q = Calm old new (w.first q) (w.first q + w.bucket_sectors)

pub stands_calm : (w : Layout) (old new : Content) (first : ℕ) (qs gens : List ℕ) → EachOf (CalmIn w old new) qs → Stands w old first qs gens → Stands w new first qs gens
stands_calm w old new first qs gens calm h = (h.0, h.1, λ q i. firm_calm old new h.0 (w.first q) (w.first q + w.bucket_sectors) (calm q i) (h.2 q i))

pub by_calm : (w : Layout) (old new : Content) (first : ℕ) (qs gens : List ℕ) (g : Stage) → EachOf (CalmIn w old new) qs → StandsBy w old first qs gens g → StandsBy w new first qs gens g
by_calm w old new first qs gens Nothing calm h = tt
by_calm w old new first qs gens Fixed calm h = stands_calm w (settled old) (settled new) first qs gens (λ q i. settled_calm old new (w.first q) (w.first q + w.bucket_sectors) (calm q i)) h
by_calm w old new first qs gens Ready calm h = stands_calm w old new first qs gens calm h
by_calm w old new first qs gens Sent calm h = stands_calm w old new first qs gens calm h
by_calm w old new first qs gens Safe calm h = stands_calm w old new first qs gens calm h

pub by_barrier : (w : Layout) (d : Content) (first : ℕ) (qs gens : List ℕ) (g : Stage) → StandsBy w d first qs gens g → StandsBy w (settled d) first qs gens (after_barrier g)
by_barrier w d first qs gens Nothing h = tt
by_barrier w d first qs gens Fixed h = h
by_barrier w d first qs gens Ready h = stands_calm w d (settled d) first qs gens (λ q i. inl refl) h
by_barrier w d first qs gens Sent h = stands_calm w d (settled d) first qs gens (λ q i. inl refl) h
by_barrier w d first qs gens Safe h = stands_calm w d (settled d) first qs gens (λ q i. inl refl) h

pub by_ready : (w : Layout) (d : Content) (first : ℕ) (qs gens : List ℕ) (g : Stage) → IsReady g → StandsBy w d first qs gens g → Stands w d first qs gens
by_ready w d first qs gens Nothing r h = absurd r
by_ready w d first qs gens Fixed r h = absurd r
by_ready w d first qs gens Ready r h = h
by_ready w d first qs gens Sent r h = h
by_ready w d first qs gens Safe r h = h

-- in each crash image it is read
pub stands_read : (w : Layout) (d : Content) (first : ℕ) (qs gens : List ℕ) (c : Image) → MayLeave d c → Stands w d first qs gens → chain_in w c first ≡ Some (record { buckets = qs; gens = gens })
stands_read w d first qs gens c left h =
    chain_stays w h.0 c w.chain_sets 0 first (record { buckets = qs; gens = gens }) (λ q t i ge lt. firm_there d h.0 (w.first q) (w.first q + w.bucket_sectors) c left (h.2 q i) t ge lt) h.1

-- what is known of a bucket with a set that was made
pub record MadeWell (w : Layout) (d : Content) (q : ℕ) (m : Made) : Type 0 where
  pub values : List Value
  pub spelled : w.prios.spelled m.part values ≡ Some m.set
  pub reads : ReadsOn d (w.first q) values
  pub low : w.journal ≤ q
  pub high : q < w.buckets

-- what spells a set fills a bucket
pub set_long : (w : Layout) (part : ℕ) (vs : List Value) (e : PrioSet) → w.prios.spelled part vs ≡ Some e → length vs ≡ w.bucket_sectors
set_long w part vs e is = w.prios.long part vs e is ∙ w.fills e

pub built : (w : Layout) (d : Content) (made : ℕ → Option Made) (base : Image) → ((q : ℕ) (m : Made) → made q ≡ Some m → MadeWell w d q m) → (part from : ℕ) (qs gens : List ℕ) → Distinct qs → IsBuilt made part from qs gens
    → (z : Image) × (chain_from w z (length qs) part from ≡ Some (record { buckets = qs; gens = gens })) × EachOf (λ q. FirmOn (settled d) z (w.first q) (w.first q + w.bucket_sectors)) qs
built w d made base known part from [] gens apart h =
    (base, by_test from 0 (λ b. ended b ≡ chain_of [] gens) (λ _. ap (λ (l : List ℕ). chain_of [] l) (sym h.1)) (λ ne. absurd (ne h.0)), λ q i. absurd i)
  where
    chain_of : List ℕ → List ℕ → Option Chain
    chain_of qs gens = Some (record { buckets = qs; gens = gens })

    ended : Bool → Option Chain
    ended b = if b then Some (record { buckets = []; gens = [] }) else None
built w d made base known part from (q ∷ qs) gens apart h =
    let set = h.1.0 in
    let m = known q (record { part = part; set = set }) h.1.1 in
    let low = m.low in
    let high = m.high in
    let rest = h.1.2.0 in
    let ih = built w d made base known (suc part) h.1.0.next qs h.1.2.0 apart.1 h.1.2.2 in
    let vs = m.values in
    let z : Image = laid ih.0 (w.first q) m.values in
    let len : length m.values ≡ w.bucket_sectors = set_long w part m.values h.1.0 m.spelled in
    let away : (b t : ℕ) → In b qs → w.first b ≤ t → t < w.first b + w.bucket_sectors → ih.0 t ≡ laid ih.0 (w.first q) m.values t
    = λ b t i ge lt. outside ih.0 (w.first q) m.values t
    (λ r. let r1 = r.1 in apart_of b q t i (known_in qs (suc part) h.1.0.next h.1.2.0 h.1.2.2 b i) (m.low, m.high) (λ e. apart.0 (subst (λ (x : ℕ). In x qs) e i)) ge lt r.0 (omega arith)) in
    let here : prio_in w z part q ≡ Some h.1.0 = ap (λ (b : Bool). if_set b (prio_at w z part q)) (is_placed w q m.low m.high) ∙ w.prios.reads_back z part (w.first q + w.bucket_sectors) (w.first q) m.values h.1.0 m.spelled (laid_has ih.0 (w.first q) m.values) (let n = w.fills h.1.0 in omega arith) in
    let there : chain_from w z (length qs) (suc part) h.1.0.next ≡ Some (record { buckets = qs; gens = h.1.2.0 }) = chain_stays w ih.0 z (length qs) (suc part) h.1.0.next (record { buckets = qs; gens = h.1.2.0 }) away ih.1 in (
      laid ih.0 (w.first q) m.values,
      ap (λ (x : ℕ). with_prio (chain_from w z (length qs) (suc part)) x (prio_in w z part x)) h.0
          ∙ ap (λ (o : Option PrioSet). with_prio (chain_from w z (length qs) (suc part)) q o) here
          ∙ ap (λ (o : Option Chain). put_prio q h.1.0.gens o) there
          ∙ ap (λ (l : List ℕ). some_of (q ∷ qs) l) (sym h.1.2.1),
      λ b i. elim i [
        | inl e ↦ subst (λ (x : ℕ). FirmOn (settled d) z (w.first x) (w.first x + w.bucket_sectors)) (sym e)
            (subst (λ (n : ℕ). FirmOn (settled d) z (w.first q) (w.first q + n)) (set_long w part m.values h.1.0 m.spelled)
            (laid_firm (settled d) ih.0 (w.first q) (w.first q) m.values (λ t ge lt. absurd (omega arith)) m.reads m.reads))
        | inr j ↦ (λ t ge lt. subst (λ (v : Value). Only v (d.reads t) × Only v (d.reads t)) (away b t j ge lt) (ih.2 b j t ge lt))
      ],
    )
  where
    if_set : Bool → Option PrioSet → Option PrioSet
    if_set b o = if b then o else None

    some_of : List ℕ → List ℕ → Option Chain
    some_of qs gens = Some (record { buckets = qs; gens = gens })

    outside : (z : Image) (p : ℕ) (vs : List Value) (t : ℕ) → ((p ≤ t) × (t < p + length vs) → ⊥) → z t ≡ laid z p vs t
    outside z p vs t out = sym (ap (λ (o : Option Value). over_value o (z t)) (at_miss p vs t out))

    known_in : (xs : List ℕ) (n f : ℕ) (g : List ℕ) → IsBuilt made n f xs g → (b : ℕ) → In b xs → (w.journal ≤ b) × (b < w.buckets)
    known_in [] n f g k b i = absurd i
    known_in (x ∷ xs) n f g k b i =
        elim i [
          | inl e ↦ (let y = known x (record { part = n; set = k.1.0 }) k.1.1 in subst (λ (v : ℕ). (w.journal ≤ v) × (v < w.buckets)) (sym e) (y.low, y.high))
          | inr j ↦ known_in xs (suc n) k.1.0.next k.1.2.0 k.1.2.2 b j
        ]

    apart_of : (b q t : ℕ) → In b qs → (w.journal ≤ b) × (b < w.buckets) → (w.journal ≤ q) × (q < w.buckets) → b ≢ q → w.first b ≤ t → t < w.first b + w.bucket_sectors → w.first q ≤ t → t < w.first q + w.bucket_sectors → ⊥
    apart_of b q t i bb qq ne x1 x2 x3 x4 = w.apart b q t bb.1 qq.1 ne x1 x2 x3 x4

-- the chain as a function and as a relation
set_found : (w : Layout) (c : Image) (part q : ℕ) (e : PrioSet) → prio_in w c part q ≡ Some e → (is_place w q ≡ true) × (prio_at w c part q ≡ Some e)
set_found w c part q e = go (is_place w q)
  where
    go : (b : Bool) → (if b then prio_at w c part q else None) ≡ Some e → (b ≡ true) × (prio_at w c part q ≡ Some e)
    go true h = (refl, h)
    go false h = absurd (cc)

leads_of : (w : Layout) (c : Image) (n part q : ℕ) (ch : Chain) → chain_from w c n part q ≡ Some ch → Leads w c part q ch.buckets ch.gens 0 × (length ch.buckets ≡ n)
leads_of w c zero part q ch = by_test q 0 (λ b. (if b then Some (record { buckets = []; gens = [] }) else None) ≡ Some ch → Leads w c part q ch.buckets ch.gens 0 × (length ch.buckets ≡ 0))
    (λ e h. subst (λ (x : Chain). Leads w c part q x.buckets x.gens 0 × (length x.buckets ≡ 0)) (some_chain (record { buckets = []; gens = [] }) ch h) ((e, refl), refl)) (λ _ h. absurd (cc))
leads_of w c (suc n) part q ch = at_set (λ f r. leads_of w c n (suc part) f r) (prio_in w c part q) refl
  where
    at_rest : ((f : ℕ) (r : Chain) → chain_from w c n (suc part) f ≡ Some r → Leads w c (suc part) f r.buckets r.gens 0 × (length r.buckets ≡ n))
        → (e : PrioSet) (r : Option Chain) → prio_in w c part q ≡ Some e → chain_from w c n (suc part) e.next ≡ r → put_prio q e.gens r ≡ Some ch → Leads w c part q ch.buckets ch.gens 0 × (length ch.buckets ≡ suc n)
    at_rest ih e None is at k = absurd (cc)
    at_rest ih e (Some r) is at k =
        let m = ih e.next r at in
        let s = set_found w c part q e is in
        subst (λ (x : Chain). Leads w c part q x.buckets x.gens 0 × (length x.buckets ≡ suc n)) (some_chain (record { buckets = q ∷ r.buckets; gens = e.gens ++ r.gens }) ch k)
        ((refl, s.0, (e, s.1, (r.gens, refl, m.0))), ap suc m.1)

    at_set : ((f : ℕ) (r : Chain) → chain_from w c n (suc part) f ≡ Some r → Leads w c (suc part) f r.buckets r.gens 0 × (length r.buckets ≡ n))
        → (o : Option PrioSet) → prio_in w c part q ≡ o → with_prio (chain_from w c n (suc part)) q o ≡ Some ch → Leads w c part q ch.buckets ch.gens 0 × (length ch.buckets ≡ suc n)
    at_set ih None is k = absurd (cc)
    at_set ih (Some e) is k = at_rest ih e (chain_from w c n (suc part) e.next) is refl k

of_leads : (w : Layout) (c : Image) (part from : ℕ) (qs gens : List ℕ) → Leads w c part from qs gens 0 → chain_from w c (length qs) part from ≡ Some (record { buckets = qs; gens = gens })
of_leads w c part from [] gens h = by_test from 0 (λ b. (if_chain b) ≡ some_of [] gens) (λ _. ap (λ (l : List ℕ). some_of [] l) (sym h.1)) (λ ne. absurd (ne h.0))
  where
    some_of : List ℕ → List ℕ → Option Chain
    some_of qs gens = Some (record { buckets = qs; gens = gens })

    if_chain : Bool → Option Chain
    if_chain b = if b then Some (record { buckets = []; gens = [] }) else None
of_leads w c part from (q ∷ qs) gens h =
    let rest = of_leads w c (suc part) h.2.0.next qs h.2.2.0 h.2.2.2 in
    ap (λ (x : ℕ). with_prio (chain_from w c (length qs) (suc part)) x (prio_in w c part x)) h.0
    ∙ ap (λ (o : Option PrioSet). with_prio (chain_from w c (length qs) (suc part)) q o) (ap (λ (b : Bool). if_set b) h.1 ∙ h.2.1)
    ∙ ap (λ (o : Option Chain). put_prio q h.2.0.gens o) rest
    ∙ ap (λ (l : List ℕ). some_of (q ∷ qs) l) (sym h.2.2.1)
  where
    some_of : List ℕ → List ℕ → Option Chain
    some_of qs gens = Some (record { buckets = qs; gens = gens })

    if_set : Bool → Option PrioSet
    if_set b = if b then prio_at w c part q else None

pub law_chain : LawChain
law_chain w c first chain = (
  (λ h. leads_of w c w.chain_sets 0 first chain h),
  (λ h. subst (λ (n : ℕ). chain_from w c n 0 first ≡ Some chain) h.1 (of_leads w c 0 first chain.buckets chain.gens h.0)),
)
