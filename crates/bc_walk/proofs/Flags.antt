-- Which buckets are taken, as flags tell.
use Rattle.std.proofs.Common.{◌≡◌, ◌⊎◌, inl, inr, ℕ, ◌<◌, List, [], ◌∷◌, ◌++◌, length, Bool, true, false, get_or, set, sym, subst, ap, ◌∙◌}
use Rattle.std.specs.Bool.{MatchBool}
use Rattle.std.proofs.lemmas.Bool.Decides.{eqb_tells}
use Rattle.std.proofs.lemmas.List.{get_or_default, get_or-set_same, get_or-set_other, length-set}
use Rattle.bc_disk.specs.declared.geometry.Geometry.{Geometry}
use Rattle.bc_image.specs.Pointers.{PointsInto}
use Rattle.bc_key.specs.declared.key.Key.{Key}
use Rattle.bc_walk.specs.declared.visit.Visit.{Visit}
use Rattle.bc_walk.specs.declared.visit.Visit.TheVariants as visits
use Rattle.bc_walk.specs.Walk.{MeetsIn, IsVisited, IsMetAgain, IsNew}
use Rattle.bc_walk.specs.Seen.{AreFlags, IsNodeIn}
use Rattle.bc_walk.proofs.OneWay.{one_place}

pub taken_or : (g : Geometry) (seen : List Visit) (v : Visit) (b : ℕ) → IsVisited g (seen ++ v ∷ []) b → IsVisited g seen b ⊎ MeetsIn g b v
taken_or g [] v b (inl meets) = inr meets
taken_or g [] v b (inr none) = absurd none
taken_or g (x ∷ seen) v b (inl meets) = inl (inl meets)
taken_or g (x ∷ seen) v b (inr more) = elim (taken_or g seen v b more) [ inl here ↦ inl (inr here) | inr meets ↦ inr meets ]

pub taken_before : (g : Geometry) (seen : List Visit) (v : Visit) (b : ℕ) → IsVisited g seen b → IsVisited g (seen ++ v ∷ []) b
taken_before g [] v b none = absurd none
taken_before g (x ∷ seen) v b (inl meets) = inl meets
taken_before g (x ∷ seen) v b (inr more) = inr (taken_before g seen v b more)

pub taken_last : (g : Geometry) (seen : List Visit) (v : Visit) (b : ℕ) → MeetsIn g b v → IsVisited g (seen ++ v ∷ []) b
taken_last g [] v b meets = inl meets
taken_last g (x ∷ seen) v b meets = inr (taken_last g seen v b meets)

match_by : (flag : Bool) (P Q : Type 0) → (P → Q) → (Q → P) → MatchBool flag P (¬ P) → MatchBool flag Q (¬ Q)
match_by true P Q on back p = on p
match_by false P Q on back p = λ q. p (back q)

one_more : (g : Geometry) (seen : List Visit) (v : Visit) (b : ℕ) (flag : Bool) → (MeetsIn g b v → ⊥) → MatchBool flag (IsVisited g seen b) (¬ (IsVisited g seen b)) → MatchBool flag (IsVisited g (seen ++ v ∷ []) b) (¬ (IsVisited g (seen ++ v ∷ []) b))
one_more g seen v b flag none p =
    match_by flag (IsVisited g seen b) (IsVisited g (seen ++ v ∷ []) b) (taken_before g seen v b) (λ q. elim (taken_or g seen v b q) [ inl here ↦ here | inr meets ↦ absurd (none meets) ]) p

pub flags_past : (g : Geometry) (seen more : List Visit) (v : Visit) (taken : List Bool) → more ≡ seen ++ v ∷ [] → ((b : ℕ) → MeetsIn g b v → ⊥) → AreFlags g seen taken → AreFlags g more taken
flags_past g seen more v taken grown none flags = record {
  each = flags.each;
  tells = λ b low. subst (λ (vs : List Visit). MatchBool (get_or taken b false) (IsVisited g vs b) (¬ (IsVisited g vs b))) (sym grown) (one_more g seen v b (get_or taken b false) (none b) (flags.tells b low));
}

met_flag : (g : Geometry) (seen : List Visit) (level from : ℕ) (key : Key) (bucket b : ℕ) (taken : List Bool) → PointsInto g key bucket → bucket < length taken → b < g.nbuckets → AreFlags g seen taken
    → MatchBool (get_or (set taken bucket true) b false) (IsVisited g (seen ++ visits.Met level from key ∷ []) b) (¬ (IsVisited g (seen ++ visits.Met level from key ∷ []) b))
met_flag g seen level from key bucket b taken place low within flags =
    let v = visits.Met level from key in
    elim (eqb_tells b bucket) [
      | inl same ↦
          subst (λ (f : Bool). MatchBool f (IsVisited g (seen ++ v ∷ []) b) (¬ (IsVisited g (seen ++ v ∷ []) b)))
          (sym (ap (λ n. get_or (set taken bucket true) n false) same.1 ∙ get_or-set_same taken bucket true false low)) (taken_last g seen v b (subst (λ n. PointsInto g key n) (sym same.1) place))
      | inr other ↦
          subst (λ (f : Bool). MatchBool f (IsVisited g (seen ++ v ∷ []) b) (¬ (IsVisited g (seen ++ v ∷ []) b)))
          (sym (get_or-set_other taken bucket b true false other.1)) (one_more g seen v b (get_or taken b false) (λ meets. other.1 (one_place g key b bucket meets place)) (flags.tells b within))
    ]

pub flags_met : (g : Geometry) (seen more : List Visit) (level from : ℕ) (key : Key) (bucket : ℕ) (taken : List Bool) → more ≡ seen ++ visits.Met level from key ∷ [] → IsNodeIn g key bucket → AreFlags g seen taken
    → AreFlags g more (set taken bucket true)
flags_met g seen more level from key bucket taken grown node flags =
    let low : bucket < length taken = subst (λ n. bucket < n) (sym flags.each) node.within in
    record {
      each = length-set taken bucket true ∙ flags.each;
      tells = λ b within. subst (λ (vs : List Visit). MatchBool (get_or (set taken bucket true) b false) (IsVisited g vs b) (¬ (IsVisited g vs b))) (sym grown) (met_flag g seen level from key bucket b taken node.place low within flags);
    }

told : (g : Geometry) (seen : List Visit) (key : Key) (bucket : ℕ) (taken : List Bool) (d flag : Bool) → AreFlags g seen taken → IsNodeIn g key bucket → get_or taken bucket d ≡ flag → MatchBool flag (IsVisited g seen bucket) (¬ (IsVisited g seen bucket))
told g seen key bucket taken d flag flags node is =
    let low : bucket < length taken = subst (λ n. bucket < n) (sym flags.each) node.within in
    subst (λ (f : Bool). MatchBool f (IsVisited g seen bucket) (¬ (IsVisited g seen bucket))) (get_or_default taken bucket false d low ∙ is) (flags.tells bucket node.within)

pub met_again : (g : Geometry) (seen : List Visit) (key : Key) (bucket : ℕ) (taken : List Bool) (d : Bool) → AreFlags g seen taken → IsNodeIn g key bucket → get_or taken bucket d ≡ true → IsMetAgain g seen key
met_again g seen key bucket taken d flags node is = record { proper = node.proper; bucket = bucket; place = node.place; taken = told g seen key bucket taken d true flags node is }

pub is_new : (g : Geometry) (seen : List Visit) (key : Key) (bucket : ℕ) (taken : List Bool) (d : Bool) → AreFlags g seen taken → IsNodeIn g key bucket → get_or taken bucket d ≡ false → IsNew g seen key bucket
is_new g seen key bucket taken d flags node is = record { proper = node.proper; place = node.place; free = told g seen key bucket taken d false flags node is }
