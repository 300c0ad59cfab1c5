-- The key that is made anew, as the books have it, and what it says.
use Rattle.std.proofs.Common.{◌≡◌, ℕ, ◌+◌, ◌%◌, ◌^◌, ◌<◌, ◌≤◌, Bool, true, false, List, [], ◌∷◌, length, Option, Some, None, refl, sym, ap, ◌∙◌, subst, arith}
use Rattle.std.specs.Prelude.{◌||◌, if◌then◌else◌}
use Rattle.std.proofs.lemmas.List.{append-nil}
use Rattle.std.proofs.Math.Nat.{add-mod_right}
use Rattle.bc_books.proofs.Cases.{by_within}
use Rattle.bc_books.specs.Index.{Clean, Dirty, Pointer, first_hit, hit, is_dirty, names, run_place, within}
use Rattle.bc_books.specs.Index as index
use Rattle.bc_events.proofs.Keys as events
use Rattle.bc_events.specs.Keys.{ArePlain, IfPoints, IsPlain, book_keys, kind_of, points_by, version_by}
use Rattle.bc_key.specs.Key.{pointer_of, start_of}
use Rattle.bc_key.specs.Words.{words_of}
use Rattle.bc_key.specs.declared.key.Key.{Key}
use Rattle.bc_key.specs.declared.ptr.Ptr.{Ptr}
use Rattle.bc_keys.proofs.KeyLists.{length-words_of}
use Rattle.bc_keys.specs.Spelling.{words_of_all}
use Rattle.bc_candidate.proofs.of_bc_place.Inserting.{present}
use Rattle.bc_whole.specs.Together.{SayTheSame, said_of}
use Rattle.bc_settle.proofs.Naming.{clean_key}

-- a key with a pointer has three words
pub three_words : (key : Key) → key.count ≡ 1 → length (words_of_all (key ∷ [])) ≡ 3
three_words key one = ap (λ (l : List ℕ). length l) (append-nil (words_of key))
    ∙ length-words_of key ∙ ap (λ n. 2 + n) one

module _ (bucket version : ℕ → ℕ) (key : Key) (ptr : Ptr) (extent : key.size ≤ key.end)
    (is : pointer_of key ≡ Some ptr) (clean : key.dirty ≡ false)
    (fresh : ptr.generation ≡ version (bucket ptr.offset) % 256) where
  abbrev pub book : index.Key
  book = clean_key (start_of key) key.size ptr.offset (version (bucket ptr.offset))

  with_kind : (d : Bool) (n : ℕ) → d ≡ false → n ≡ version (bucket ptr.offset) → (record {
    first = start_of key;
    count = key.size;
    kind = Some (if d then Dirty else Clean);
    place = ptr.offset;
    version = n;
  }) ≡ book
  with_kind d n off at = ap (λ (b : Bool). record {
    first = start_of key;
    count = key.size;
    kind = Some (if b then Dirty else Clean);
    place = ptr.offset;
    version = n;
  }) off ∙ ap (λ m. clean_key (start_of key) key.size ptr.offset m) at

  pub book_is : book_keys bucket version (key ∷ []) ≡ book ∷ []
  book_is = ap (λ k. k ∷ []) (ap (points_by bucket version key) is
      ∙ with_kind key.dirty (version_by (version (bucket ptr.offset)) ptr.generation) clean
      (present bucket version (version (bucket ptr.offset)) ptr.generation fresh))

  -- ---- what it says

  -- versions of which each has a byte behind it
  abbrev later : ℕ → ℕ
  later q = version q + 256

  module _ (device : ptr.dev ≡ 0) (places : ptr.offset + key.size ≤ 2 ^ 43) where
    plain : ArePlain bucket later (key ∷ [])
    plain = (
      extent,
      (
        subst (λ o. IfPoints o (IsPlain bucket later key)) (sym is) (record {
          device = device;
          byte = ptr.generation_fits;
          places = places;
          counted = omega arith;
        }),
        tt,
      ),
    )

    same_byte : version_by (later (bucket ptr.offset)) ptr.generation % 256
        ≡ version_by (version (bucket ptr.offset)) ptr.generation % 256
    same_byte =
        let up = add-mod_right (version (bucket ptr.offset)) 256 in
        ap (λ n. n % 256) (present bucket version (later (bucket ptr.offset)) ptr.generation
        (fresh ∙ sym up)) ∙ up
        ∙ sym (ap (λ n. n % 256) (present bucket version (version (bucket ptr.offset))
        ptr.generation fresh))

    one_said : (x : Option ℕ) → said_of (first_hit (points_by bucket later key (Some ptr)) x None)
        ≡ said_of (first_hit (points_by bucket version key (Some ptr)) x None)
    one_said None = refl
    one_said (Some p) = ap (λ g. Some (Some (record {
      dirty = is_dirty (kind_of key);
      dev = 0;
      place = p;
      generation = g;
    }))) same_byte

    said_later : (s : ℕ) → said_of (hit (book_keys bucket later (key ∷ [])) s)
        ≡ said_of (hit (book_keys bucket version (key ∷ [])) s)
    said_later s = subst (λ o. said_of (first_hit (points_by bucket later key o)
        (run_place (points_by bucket later key o).first (points_by bucket later key o).place
        (points_by bucket later key o).count s) None)
        ≡ said_of (first_hit (points_by bucket version key o)
        (run_place (points_by bucket version key o).first (points_by bucket version key o).place
        (points_by bucket version key o).count s) None))
        (sym is) (one_said (run_place (start_of key) ptr.offset key.size s))

    pub says_same : SayTheSame (key ∷ []) (book_keys bucket version (key ∷ []))
    says_same s = events.law_keys bucket later (key ∷ []) plain s ∙ said_later s

-- ---- where it points

-- a sector that it covers points to its place
pub record IsAt (first count at version s : ℕ) (o : Option Pointer) : Type 0 where
  pub place : ℕ
  pub run : run_place first at count s ≡ Some place
  pub is : o ≡ Some (record { kind = Clean; place = place; version = version })

pub hit_at : (first count at version s : ℕ) (o : Option Pointer)
    → hit (clean_key first count at version ∷ []) s ≡ Some o → IsAt first count at version s o
hit_at first count at version s o = go (run_place first at count s) refl
  where
    same : (a b : Option Pointer) → Some a ≡ Some b → b ≡ a
    same a b is = cc

    none : (a : Option Pointer) → None ≡ Some a → ⊥
    none a is = absurd (cc)

    go : (x : Option ℕ) → run_place first at count s ≡ x
        → first_hit (clean_key first count at version) x None ≡ Some o
        → IsAt first count at version s o
    go None run is = absurd (none o is)
    go (Some t) run is = record { place = t; run = run; is = same _ o is }

or_off : (b : Bool) → (b || false) ≡ true → b ≡ true
or_off true is = refl
or_off false is = absurd (cc)

pub names_within : (first count at version t : ℕ)
    → names (clean_key first count at version ∷ []) t ≡ true → within at count t ≡ true
names_within first count at version t on = or_off (within at count t) on

pub in_run : (at n t : ℕ) → at ≤ t → t < at + n → within at n t ≡ true
in_run at n t from to = by_within at n t (λ b. b ≡ true) (λ _. refl)
    (λ no. absurd (no (from, to)))
