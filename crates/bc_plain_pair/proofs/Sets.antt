-- The sets of a node, and their keys.
use Rattle.std.proofs.Common.{◌≡◌, ◌≢◌, ℕ, zero, suc, ◌+◌, ◌-◌, ◌*◌, ◌<◌, ◌≤◌, List, [], ◌∷◌, ◌++◌, length, take, get_or, Some, None, refl, sym, subst, ap, ◌∙◌, append_assoc}
use Rattle.std.specs.List.{flat_map}
use Rattle.std.proofs.lemmas.Grind.{flat_map-append}
use Rattle.std.proofs.lemmas.List.{append-nil, take_more}
use Rattle.bc_model.specs.Sector.{Image}
use Rattle.bc_disk.specs.declared.geometry.Geometry.{Geometry}
use Rattle.bc_key.specs.declared.key.Key.{Key}
use Rattle.bc_key.specs.declared.ptr.Ptr.{Ptr}
use Rattle.bc_key.specs.Key.{pointer_of}
use Rattle.bc_key.specs.Words.{ptr_word}
use Rattle.bc_record.specs.Sectors.{bytes_to}
use Rattle.bc_record.specs.Kind.{Kind, sectors_of, IsFound, AreFound}
use Rattle.bc_record.proofs.Found.{found_fits, takes_some, next_blocks}
use Rattle.bc_record.proofs.Parts.{length-bytes_in}
use Rattle.bc_set.specs.declared.set.Set.{Set}
use Rattle.bc_set.specs.declared.set.SetKind.{SetKind}
use Rattle.bc_set.specs.SetBytes.{bytes_of}
use Rattle.bc_set.specs.Records.{set_kind, set_sectors, numbered_kind}
use Rattle.bc_set.proofs.NodeSets.{numbered_codec}
use Rattle.bc_image.specs.Tree.{kind_at, set_keys, data_keys, AreSetsAt}

-- a set that was found at a place, of which so many blocks are left up to the end
pub record IsTaken (g : Geometry) (end place sectors : ℕ) : Type 0 where
  pub some : 0 < sectors
  pub fits : place + sectors ≤ end
  pub left : ℕ
  pub whole : end ≡ place + sectors + g.block * left

pub taken : (g : Geometry) (start : ℕ) (kind : SetKind) (seq : ℕ) (image : Image) (end place blocks sectors : ℕ) (s : Set) → end ≡ place + g.block * blocks → IsFound (numbered_kind g start kind seq) image end place s → sectors ≡ set_sectors g s → IsTaken g end place sectors
taken g start kind seq image end place blocks sectors s whole found is =
    let k = numbered_kind g start kind seq in
    let codec = numbered_codec g start kind seq in
    let fits : place + sectors_of k s ≤ end = found_fits k codec image end place blocks s whole found in
    let some : 0 < sectors_of k s = takes_some k codec s in
    let next = next_blocks k codec s end place blocks whole fits in
    record { some = subst (λ n. 0 < n) (sym is) some; fits = subst (λ n. place + n ≤ end) (sym is) fits; left = next.0; whole = next.1 ∙ ap (λ n. place + n + g.block * next.0) (sym is) }

-- its bytes aren't more than there are
pub few_bytes : (g : Geometry) (start : ℕ) (kind : SetKind) (seq : ℕ) (image : Image) (end place : ℕ) (s : Set) → IsFound (numbered_kind g start kind seq) image end place s → bytes_of s ≤ 512 * (end - place)
few_bytes g start kind seq image end place s found =
    let fits = (numbered_codec g start kind seq).fits (bytes_to image end place) s found in
    subst (λ n. bytes_of s ≤ n) (length-bytes_in image place (end - place)) fits

-- what is listed from a place on comes behind what was listed before
abbrev pub ListsOn : {A : Type 0} → Kind A → Image → ℕ → ℕ → List A → ℕ → Type 0
ListsOn {A = A} kind image end start here place = (rest : List A) → AreFound kind image end place rest → AreFound kind image end start (here ++ rest)

pub lists_more : {A : Type 0} (kind : Kind A) (image : Image) (end start place next : ℕ) (here : List A) (e : A) → ListsOn kind image end start here place → IsFound kind image end place e → next ≡ place + sectors_of kind e
    → ListsOn kind image end start (here ++ e ∷ []) next
lists_more {A = A} kind image end start place next here e so found is rest more =
    subst (λ (xs : List A). AreFound kind image end start xs) (sym (append_assoc here (e ∷ []) rest)) (so (e ∷ rest) (found, subst (λ (p : ℕ). AreFound kind image end p rest) is more))

-- ---- the sets of a node, once its first one is found

pub sets_there : (g : Geometry) (image : Image) (level word end : ℕ) (kind : SetKind) (key : Key) (ptr : Ptr) (first : Set) (list : List Set)
    → pointer_of key ≡ Some ptr → word ≡ ptr_word ptr → kind ≡ kind_at level → end ≡ ptr.offset + g.node_sectors
    → IsFound (set_kind g word kind) image end ptr.offset first → AreFound (numbered_kind g word kind first.seq) image end ptr.offset list → AreSetsAt g image level key list
sets_there g image level word end kind key ptr first [] points word_is kind_is end_is found none = absurd (none first (found, refl))
sets_there g image level word end kind key ptr first (s ∷ ss) points word_is kind_is end_is found are =
    let P : ℕ → SetKind → ℕ → Type 0 = λ w k e. AreFound (numbered_kind g w k s.seq) image e ptr.offset (s ∷ ss) in
    let same : P word kind end = subst (λ n. AreFound (numbered_kind g word kind n) image end ptr.offset (s ∷ ss)) (sym are.0.1) are in
    record {
      ptr = ptr;
      points = points;
      stand = subst (λ w. P w (kind_at level) (ptr.offset + g.node_sectors)) word_is (subst (λ (k : SetKind). P word k (ptr.offset + g.node_sectors)) kind_is (subst (λ e. P word kind e) end_is same));
      some = λ e. cc;
    }

same_some : (a b : Ptr) → Some a ≡ Some b → a ≡ b
same_some a b e = cc

pub no_pointer : (g : Geometry) (image : Image) (level : ℕ) (key : Key) (sets : List Set) → pointer_of key ≡ None → AreSetsAt g image level key sets → ⊥
no_pointer g image level key sets none at = let points = at.points in cc

pub no_first : (g : Geometry) (image : Image) (level word end : ℕ) (kind : SetKind) (key : Key) (ptr : Ptr) → pointer_of key ≡ Some ptr → word ≡ ptr_word ptr → kind ≡ kind_at level → end ≡ ptr.offset + g.node_sectors
    → ((s : Set) → IsFound (set_kind g word kind) image end ptr.offset s → ⊥) → (sets : List Set) → AreSetsAt g image level key sets → ⊥
no_first g image level word end kind key ptr points word_is kind_is end_is none [] at = at.some refl
no_first g image level word end kind key ptr points word_is kind_is end_is none (s ∷ ss) at =
    let same : at.ptr ≡ ptr = same_some at.ptr ptr (sym at.points ∙ points) in
    let there : IsFound (set_kind g (ptr_word ptr) (kind_at level)) image (ptr.offset + g.node_sectors) ptr.offset s = subst (λ (p : Ptr). IsFound (set_kind g (ptr_word p) (kind_at level)) image (p.offset + g.node_sectors) p.offset s) same at.stand.0.0 in
    none s (subst (λ w. IsFound (set_kind g w kind) image end ptr.offset s) (sym word_is)
    (subst (λ (k : SetKind). IsFound (set_kind g (ptr_word ptr) k) image end ptr.offset s) (sym kind_is)
    (subst (λ e. IsFound (set_kind g (ptr_word ptr) (kind_at level)) image e ptr.offset s) (sym end_is) there)))

-- ---- keys, set after set and node after node

pub more_of : {X Y : Type 0} (f : X → List Y) (xs : List X) (i : ℕ) (x : X) (old new : List Y) → i < length xs → x ≡ get_or xs i x → old ≡ flat_map f (take i xs) → new ≡ old ++ f x → new ≡ flat_map f (take (i + 1) xs)
more_of {X} {Y} f xs i x old new low is so more =
    more ∙ ap (λ (ys : List Y). ys ++ f x) so ∙ ap (λ (ys : List Y). flat_map f (take i xs) ++ ys) (ap f is ∙ sym (append-nil (f (get_or xs i x))))
    ∙ sym (ap (flat_map f) (take_more xs i x low) ∙ flat_map-append f (take i xs) (get_or xs i x ∷ []))

pub no_more_of : {X Y : Type 0} (f : X → List Y) (xs : List X) (i : ℕ) (x : X) (old : List Y) → i < length xs → x ≡ get_or xs i x → old ≡ flat_map f (take i xs) → f x ≡ [] → old ≡ flat_map f (take (i + 1) xs)
no_more_of {X} {Y} f xs i x old low is so none = more_of f xs i x old old low is so (sym (append-nil old) ∙ ap (λ (ys : List Y). old ++ ys) (sym none))

pub data_there : (level : ℕ) (sets : List Set) → level ≡ 0 → set_keys sets ≡ data_keys level sets
data_there level sets is = ap (λ n. data_keys n sets) (sym is)

pub data_none : (level : ℕ) (sets : List Set) → level ≢ 0 → data_keys level sets ≡ []
data_none zero sets ne = absurd (ne refl)
data_none (suc level) sets ne = refl
