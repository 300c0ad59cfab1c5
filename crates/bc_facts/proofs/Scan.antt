-- A scan of the machine finds what stands one behind the other.
use Rattle.std.proofs.Common.{◌≡◌, ◌↔◌, ℕ, zero, suc, ◌+◌, ◌*◌, ◌≤◌, List, [], ◌∷◌, Option, Some, None, refl, ap, ◌∙◌, arith}
use Rattle.bc_model.specs.Sector.{Image}
use Rattle.bc_record.specs.Kind.{Kind, sectors_of, NoneFound, AreFound}
use Rattle.bc_record.specs.Codec.{IsCodec}
use Rattle.bc_record.proofs.Found.{takes_some, found_fits, next_blocks}
use Rattle.bc_meta.specs.Facts.{scan, scan_on}
use Rattle.bc_facts.specs.Whole.{IsWhole}
use Rattle.bc_facts.proofs.Lists.{put_all}

-- what is found at each place is what stands there, as it is seen
abbrev pub Finds : {R A : Type 0} → Kind R → (R → A) → Image → ℕ → (ℕ → Option A) → Type 0
Finds {R} {A} kind seen image end found = (p : ℕ) (e : A) → (found p ≡ Some e) ↔ ((r : R) × IsWhole kind image end p r × (seen r ≡ e))

module _ {R A : Type 0} (kind : Kind R) (codec : IsCodec kind) (seen : R → A) (image : Image) (end : ℕ) (found : ℕ → Option A) (finds : Finds kind seen image end found) where
  pub none_found : (p : ℕ) → NoneFound kind image end p → found p ≡ None
  none_found p nothing = go (found p) refl
    where
      go : (o : Option A) → found p ≡ o → o ≡ None
      go None is = refl
      go (Some e) is = let k = (finds p e).0 is in absurd (nothing k.0 k.1.0)

  pub is_found : (p : ℕ) (r : R) → IsWhole kind image end p r → found p ≡ Some (seen r)
  is_found p r is = (finds p (seen r)).1 (r, is, refl)

  pub scan_is : (len : A → ℕ) → ((r : R) → len (seen r) ≡ sectors_of kind r) → (n p blocks : ℕ) (acc : List A) (rs : List R)
      → end ≡ p + kind.block * blocks → end ≤ p + n → AreFound kind image end p rs → scan len found n p acc ≡ put_all seen rs acc
  scan_is len is zero p blocks acc [] ends few are = refl
  scan_is len is zero p blocks acc (r ∷ rs) ends few are =
      let fits = found_fits kind codec image end p blocks r ends are.0 in let some = takes_some kind codec r in absurd (omega arith)
  scan_is len is (suc n) p blocks acc [] ends few are = ap (λ (o : Option A). scan_on (scan len found n) len p acc o) (none_found p are)
  scan_is len is (suc n) p blocks acc (r ∷ rs) ends few are =
      let fits = found_fits kind codec image end p blocks r ends are.0 in
      let next = next_blocks kind codec r end p blocks ends fits in
      ap (λ (o : Option A). scan_on (scan len found n) len p acc o) (is_found p r (are.0, fits))
      ∙ ap (λ (m : ℕ). scan len found n (p + m) (seen r ∷ acc)) (is r)
      ∙ scan_is len is n (p + sectors_of kind r) next.0 (seen r ∷ acc) rs next.1 (let some = takes_some kind codec r in omega arith) are.1
