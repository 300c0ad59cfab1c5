-- What a pair shows, by what is read of it.
use Rattle.std.proofs.Common.{◌≡◌, ℕ, ◌+◌, List, Some, None, refl, sym, subst, ap, ◌∙◌}
use Rattle.std.specs.Prelude.{Bool, true, false, Option, Result, Ok, Err, IfOk, MatchOption, if◌then◌else◌}
use Rattle.bc_model.specs.Sector.{Image, Value}
use Rattle.bc_disk.specs.Gens.{Gens}
use Rattle.bc_disk.specs.declared.geometry.Geometry.{Geometry}
use Rattle.bc_extent.specs.LastKey.{last_key}
use Rattle.bc_key.specs.declared.key.Key.{Key}
use Rattle.bc_key.specs.Key.{place_at}
use Rattle.bc_super.specs.Division.{IsPassThrough}
use Rattle.bc_super.specs.declared.backing.BackingSuper.{BackingSuper}
use Rattle.bc_image.specs.Pair.{Pair, HasBacking}
use Rattle.bc_image.specs.Reading.{View, IsView, keys_of, key_of}
use Rattle.bc_image.specs.Shown.{is_live, value_by, shown_by, IsShown, through, cached}
use Rattle.bc_image.proofs.Unique.{one_backing}
use Rattle.bc_plain_pair.specs.LivePlace.{live_place}

same_place : (a b : ℕ) → Some a ≡ Some b → a ≡ b
same_place a b e = cc

there : (g : Geometry) (gens : Gens) (cache : Image) (key : Option Key) (s place : ℕ) (backed : Value) → live_place g gens key s ≡ Some place → cache place ≡ value_by g gens cache key s backed
there g gens cache None s place backed e = absurd (cc)
there g gens cache (Some key) s place backed e = go (is_live g gens key) e
  where
    go : (live : Bool) → (if live then Some (place_at key 0 s) else None) ≡ Some place → cache place ≡ (if live then cache (place_at key 0 s) else backed)
    go true same = ap cache (sym (same_place (place_at key 0 s) place same))
    go false none = absurd (cc)

behind : (g : Geometry) (gens : Gens) (cache : Image) (key : Option Key) (s : ℕ) (backed : Value) → live_place g gens key s ≡ None → backed ≡ value_by g gens cache key s backed
behind g gens cache None s backed e = refl
behind g gens cache (Some key) s backed e = go (is_live g gens key) e
  where
    go : (live : Bool) → (if live then Some (place_at key 0 s) else None) ≡ None → backed ≡ (if live then cache (place_at key 0 s) else backed)
    go true some = absurd (cc)
    go false none = refl

module _ (p : Pair) (v : View) (keys : List Key) (g : Geometry) (gens : Gens) (key : Option Key) (s : ℕ) (place : Option ℕ) (are : keys ≡ keys_of v.reading) (here : g ≡ v.geometry) (told : gens ≡ v.reading.gens) (last : key ≡ last_key keys s)
    (is : place ≡ live_place g gens key s) where
  place_is : place ≡ live_place v.geometry v.reading.gens (key_of v.reading s) s
  place_is =
      is ∙ ap (λ (x : Geometry). live_place x gens key s) here ∙ ap (λ (x : Gens). live_place v.geometry x key s) told
      ∙ ap (λ (k : Option Key). live_place v.geometry v.reading.gens k s) (last ∙ ap (λ (ks : List Key). last_key ks s) are)

  pub value_there : (n : ℕ) → place ≡ Some n → p.cache n ≡ shown_by p v s
  value_there n some = there v.geometry v.reading.gens p.cache (key_of v.reading s) s n (p.backing (v.backing.data_offset + s)) (sym place_is ∙ some)

  pub value_behind : place ≡ None → p.backing (v.backing.data_offset + s) ≡ shown_by p v s
  value_behind none = behind v.geometry v.reading.gens p.cache (key_of v.reading s) s (p.backing (v.backing.data_offset + s)) (sym place_is ∙ none)

-- ---- pairs

pub no_backing : (p : Pair) → ((b : BackingSuper) → HasBacking p b → ⊥) → (f : Image) → IsShown p f → ⊥
no_backing p none f (through b has alone is) = none b has
no_backing p none f (cached v view not is) = none v.backing view.backing

pub cached_shows : {V E : Type 0} (p : Pair) (b : BackingSuper) (s : ℕ) (items : V → List ℕ) (answer : Result (Option V) E) → HasBacking p b → (IsPassThrough b → ⊥)
    → IfOk answer (λ o. MatchOption o ((v : View) → IsView p v → ⊥) (λ value. (v : View) × IsView p v × (items value ≡ shown_by p v s)))
    → IfOk answer (λ o. MatchOption o ((f : Image) → IsShown p f → ⊥) (λ value. (f : Image) × IsShown p f × (items value ≡ f s)))
cached_shows p b s items (Err e) has nor so = tt
cached_shows p b s items (Ok None) has nor so = none
  where
    none : (f : Image) → IsShown p f → ⊥
    none f (through d there alone is) = nor (subst IsPassThrough (one_backing p d b there has) alone)
    none f (cached v view not is) = so v view
cached_shows p b s items (Ok (Some value)) has nor so =
    ((λ n. shown_by p so.0 n), cached so.0 so.1 (λ alone. nor (subst IsPassThrough (one_backing p so.0.backing b so.1.backing has) alone)) (λ n. refl), so.2)

pub through_shows : (p : Pair) (b : BackingSuper) (s : ℕ) (value : List ℕ) → HasBacking p b → IsPassThrough b → value ≡ p.backing (b.data_offset + s) → (f : Image) × IsShown p f × (value ≡ f s)
through_shows p b s value has alone is = ((λ n. p.backing (b.data_offset + n)), through b has alone (λ n. refl), is)
