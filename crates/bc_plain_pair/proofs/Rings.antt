-- Where the ring goes on, and whether there is room.
use Rattle.std.proofs.Common.{◌≡◌, ◌≢◌, ◌⊎◌, inl, inr, ℕ, zero, suc, ◌+◌, ◌-◌, ◌*◌, ◌^◌, ◌<◌, ◌≤◌, max, Bool, true, false, List, [], ◌∷◌, ◌++◌, length, take, get_or, Option, Some, None, sym, subst, ap, ◌∙◌, arith}
use Rattle.std.specs.Prelude.{Any}
use Rattle.std.specs.Bool.{MatchBool}
use Rattle.std.proofs.Math.Nat.{le-max_left, le-max_right, mul-le-mul_left}
use Rattle.std.proofs.lemmas.Bool.{cases_lt}
use Rattle.std.proofs.lemmas.List.{take_all, take_more}
use Rattle.std.proofs.lemmas.List.Elements.{All-nil, All-push, All-weaker, All-contains, Contains-append_left, Contains-push}
use Rattle.bc_disk.specs.declared.geometry.Geometry.{Geometry}
use Rattle.bc_image.specs.Reading.{Reading}
use Rattle.bc_image.specs.Sound.{HasRoomForEntry}
use Rattle.bc_jset.specs.Entries.{FoundEntry, StandIn}
use Rattle.bc_jset.specs.Records.{entry_kind}
use Rattle.bc_jset.specs.Ring.{HasRoom, IsNextPlace, bucket_after, bucket_of}
use Rattle.bc_jset.proofs.Entries.{one_stand}
use Rattle.bc_jset.proofs.Ring.{one_next}
use Rattle.bc_model.specs.Sector.{Image}
use Rattle.bc_record.specs.Places.{end_of}
use Rattle.bc_record.proofs.Blocks.{bucket_blocks}
use Rattle.bc_plain_pair.specs.Rooms.{AreOld, EndsAt, EndsBefore, IsBehind, later}

-- ---- entry after entry

module _ (g : Geometry) (es : List FoundEntry) (bucket : ℕ) (e : FoundEntry) where
  any_left : (next : ℕ) → Any (EndsAt g bucket next) es → Any (EndsAt g bucket next) (es ++ e ∷ [])
  any_left next any = let has = Contains-append_left es (e ∷ []) any.1 (any.0, any.2, any.3) in (has.0, any.1, has.1, has.2, any.4)

  any_last : (next : ℕ) → EndsAt g bucket next e → Any (EndsAt g bucket next) (es ++ e ∷ [])
  any_last next at = let has = Contains-push es e in (has.0, e, has.1, has.2, at)

  pub in_bucket : (next : Option ℕ) (end : ℕ) → bucket_of g e ≡ bucket → end ≡ end_of (entry_kind g) e → IsBehind g es bucket next → IsBehind g (es ++ e ∷ []) bucket (Some (later next end))
  in_bucket None end same is none = (any_last end (same, sym is), All-push (EndsBefore g bucket end) es e (All-weaker (λ (x : FoundEntry). bucket_of g x ≢ bucket) (EndsBefore g bucket end) (λ x other here. absurd (other here)) es none) (λ _. omega (arith, is)))
  in_bucket (Some next) end same is (last, before) =
      let left = le-max_left next end in
      let right = le-max_right next end in
      let weaker = All-weaker (EndsBefore g bucket next) (EndsBefore g bucket (max next end)) (λ (x : FoundEntry) low here. (let le = low here in omega (arith, le, left))) es before in
      (which (cases_lt next end), All-push (EndsBefore g bucket (max next end)) es e weaker (λ _. omega (arith, is, right)))
    where
      which : (next < end) ⊎ (end ≤ next) → Any (EndsAt g bucket (max next end)) (es ++ e ∷ [])
      which (inl low) = let most : max next end ≡ end = omega arith in any_last (max next end) (same, sym (most ∙ is))
      which (inr high) = let most : max next end ≡ next = omega arith in any_left (max next end) (subst (λ n. Any (EndsAt g bucket n) es) (sym most) last)

  pub not_in_bucket : (next : Option ℕ) → (bucket_of g e ≡ bucket → ⊥) → IsBehind g es bucket next → IsBehind g (es ++ e ∷ []) bucket next
  not_in_bucket None other none = All-push (λ (x : FoundEntry). bucket_of g x ≢ bucket) es e none other
  not_in_bucket (Some next) other (last, before) = (any_left next last, All-push (EndsBefore g bucket next) es e before (λ here. absurd (other here)))

module _ (g : Geometry) (es : List FoundEntry) (bucket i : ℕ) (e : FoundEntry) (low : i < length es) (is : e ≡ get_or es i e) where
  one_more : take (i + 1) es ≡ take i es ++ e ∷ []
  one_more = take_more es i e low ∙ ap (λ (x : FoundEntry). take i es ++ x ∷ []) (sym is)

  pub behind_more : (next : Option ℕ) → IsBehind g (take i es ++ e ∷ []) bucket next → IsBehind g (take (i + 1) es) bucket next
  behind_more next so = subst (λ (xs : List FoundEntry). IsBehind g xs bucket next) (sym one_more) so

pub behind_none : (g : Geometry) (es : List FoundEntry) (bucket : ℕ) → IsBehind g (take 0 es) bucket None
behind_none g es bucket = All-nil (λ (x : FoundEntry). bucket_of g x ≢ bucket)

pub behind_all : (g : Geometry) (es : List FoundEntry) (bucket i : ℕ) (next : Option ℕ) → length es ≤ i → IsBehind g (take i es) bucket next → IsBehind g es bucket next
behind_all g es bucket i next end so = subst (λ (xs : List FoundEntry). IsBehind g xs bucket next) (take_all i es end) so

-- ---- room

module _ (g : Geometry) (all es : List FoundEntry) (newest : FoundEntry) where
  -- no entry that counts stands in the newest one's bucket
  pub no_place : IsBehind g es (bucket_of g newest) None → HasRoom g all es newest → ⊥
  no_place none room = let at = room.place.last in All-contains (λ (x : FoundEntry). bucket_of g x ≢ bucket_of g newest) es at.1 none (at.0, at.2, at.3) at.4.0

  module _ (next : ℕ) (place : IsBehind g es (bucket_of g newest) (Some next)) where
    is_next : IsNextPlace g es newest next
    is_next = record { last = place.0; behind = place.1 }

    pub room_behind : next + g.block ≤ g.bucket * (bucket_of g newest + 1) → HasRoom g all es newest
    room_behind fits = record { next = next; place = is_next; room = inl fits }

    pub room_after : (b : Bool) → (next + g.block ≤ g.bucket * (bucket_of g newest + 1) → ⊥)
        → MatchBool b (AreOld g all newest.item.last_seq (bucket_after g (bucket_of g newest))) (AreOld g all newest.item.last_seq (bucket_after g (bucket_of g newest)) → ⊥)
        → MatchBool b (HasRoom g all es newest) (HasRoom g all es newest → ⊥)
    room_after true full free = record { next = next; place = is_next; room = inr free }
    room_after false full used = λ room. elim room.room [
      | inl here ↦ full (subst (λ n. n + g.block ≤ g.bucket * (bucket_of g newest + 1)) (one_next g es newest room.next next room.place is_next) here)
      | inr there ↦ used there
    ]

-- ---- of a reading

module _ (g : Geometry) (image : Image) (es all : List FoundEntry) (newest : FoundEntry) (r : Reading) (entries : r.entries ≡ es) (last : r.newest ≡ newest) where
  pub no_number : 2 ^ 63 - 2 ≤ newest.item.seq → HasRoomForEntry g image r → ⊥
  no_number most room = let low = room.number in let same = ap (λ (e : FoundEntry). e.item.seq) last in omega (arith, most, low, same)

  pub room_for : (b : Bool) → newest.item.seq < 2 ^ 63 - 2 → StandIn g image g.journal all → MatchBool b (HasRoom g all es newest) (HasRoom g all es newest → ⊥) → MatchBool b (HasRoomForEntry g image r) (HasRoomForEntry g image r → ⊥)
  room_for true low stand room = record {
    number = subst (λ (e : FoundEntry). e.item.seq < 2 ^ 63 - 2) (sym last) low;
    all = all;
    stand = stand;
    room = subst (λ (e : FoundEntry). HasRoom g all r.entries e) (sym last) (subst (λ (xs : List FoundEntry). HasRoom g all xs newest) (sym entries) room);
  }
  room_for false low stand full = λ so.
      let same : so.all ≡ all = one_stand g image g.journal so.all all so.stand stand in
      full (subst (λ (xs : List FoundEntry). HasRoom g xs es newest) same (subst (λ (xs : List FoundEntry). HasRoom g so.all xs newest) entries (subst (λ (e : FoundEntry). HasRoom g so.all r.entries e) last so.room)))

-- a block fits into any bucket
some_blocks : (block bucket k : ℕ) → 0 < bucket → bucket ≡ block * k → block ≤ bucket
some_blocks block bucket zero some is = absurd (let none : block * 0 ≡ 0 = omega arith in omega (arith, some, is, none))
some_blocks block bucket (suc k) some is = (let one : block * 1 ≤ block * suc k = mul-le-mul_left block (omega arith) in omega (arith, is, one))

pub block_within : (g : Geometry) (bucket : ℕ) → g.block ≤ g.bucket * (bucket + 1)
block_within g bucket =
    let blocks = bucket_blocks g in
    let wide = g.bucket_from in
    let one = some_blocks g.block g.bucket blocks.0 (omega (arith, wide)) blocks.1 in
    let more : g.bucket * 1 ≤ g.bucket * (bucket + 1) = mul-le-mul_left g.bucket (omega arith) in
    omega (arith, one, more)
