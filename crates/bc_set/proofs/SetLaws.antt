-- One set at most begins bytes, and it rests on its own bytes alone.
use Rattle.std.proofs.Common.{subst, ◌≡◌, ◌⊎◌, inl, inr, ℕ, ◌+◌, ◌-◌, ◌*◌, ◌<◌, ◌≤◌, List, ◌++◌, length, take, drop, get_or, slice_range, refl, sym, ap, ◌∙◌, arith}
use Rattle.std.specs.Prelude.{Any, Result, Ok, Err, IfOk, IfErr, MatchResult}
use Rattle.std.proofs.lemmas.Bool.{cases_lt}
use Rattle.std.proofs.lemmas.List.{get_or_default, length-drop}
use Rattle.bc_bytes.specs.Checksum.{checksum}
use Rattle.bc_bytes.specs.Fields.{number_at, SameOutside}
use Rattle.bc_key.specs.declared.key.Key.{Key}
use Rattle.bc_keys.specs.Spelling.{words_at, words_of_all, SpellKeys}
use Rattle.bc_keys.proofs.KeyLists.{one_list, never_both as keys_never_both, length-SpellKeys, SpellKeys-words_of}
use Rattle.bc_keys.proofs.WordsAt.{length-words_at, number_at-front, words_at-front, words_at-kept, slice_range-front, slice_range-take, front_fits, take-front}
use Rattle.bc_set.specs.declared.error.SetError.{SetError}
use Rattle.bc_set.specs.declared.error.SetError.TheVariants as errors
use Rattle.bc_set.specs.declared.set.Set.{Set}
use Rattle.bc_set.specs.declared.set.SetKind.{SetKind}
use Rattle.bc_set.specs.declared.set.SetKind.TheVariants.{Extents, Children}
use Rattle.bc_set.specs.SetBytes.{IsVersion, start_by, IsSet, HasMagic, HasChecksum, StandsAt, IsRefused, IsCause, Follows, IsRefusedAs, HasBadKey, AreOfKind, AreInOrder, AreSetKeys, bytes_of, count_in, end_in, version_in, words_in}

same_set : (s t : Set) → s.seq ≡ t.seq → s.version ≡ t.version → s.keys ≡ t.keys → s ≡ t
same_set s t seq version keys = λ i. record { seq = seq i; version = version i; keys = keys i }

pub one_set : (start magic : ℕ) (kind : SetKind) (bytes : List ℕ) (s t : Set) → IsSet start magic kind bytes s → IsSet start magic kind bytes t → s ≡ t
one_set start magic kind bytes s t p q =
    same_set s t (sym p.seq ∙ q.seq) (sym p.version ∙ q.version) (one_list (words_in bytes) s.keys t.keys p.keys q.keys)

-- keys that a set of the kind may hold, and words with a bad key
no_refused : (kind : SetKind) (keys : List Key) → AreOfKind kind keys → Any (IsRefusedAs kind) keys → ⊥
no_refused Extents keys each bad = omega (arith, each bad.0 bad.1 bad.2, bad.4, ap (λ (key : Key). key.end) bad.3, ap (λ (key : Key). key.size) bad.3)
no_refused Children keys each bad = bad.4

no_bad_key : (kind : SetKind) (words : List ℕ) (keys : List Key) → SpellKeys words keys → AreOfKind kind keys → HasBadKey kind words → ⊥
no_bad_key kind words keys spelled each (inl bad) = keys_never_both words keys bad.0 spelled bad.1
no_bad_key kind words keys spelled each (inr bad) =
    no_refused kind keys each (subst (λ (ks : List Key). Any (IsRefusedAs kind) ks) (one_list words bad.0 keys bad.1 spelled) bad.2)

-- ---- a set rests on its own bytes

-- it ends where its words do
end_is : (bytes : List ℕ) (s : Set) → SpellKeys (words_in bytes) s.keys → bytes_of s ≡ end_in bytes
end_is bytes s keys =
    let words = length-SpellKeys (words_in bytes) s.keys keys in
    let count = length-words_at (count_in bytes) bytes 32 in
    omega arith

pub set_fits : (start magic : ℕ) (kind : SetKind) (bytes : List ℕ) (s : Set) → IsSet start magic kind bytes s → bytes_of s ≤ length bytes
set_fits start magic kind bytes s p =
    let ends = end_is bytes s p.keys in
    let long = p.whole.long in
    omega arith

pub set_stays : (start magic : ℕ) (kind : SetKind) (old new : List ℕ) (s : Set) → IsSet start magic kind old s → take (bytes_of s) new ≡ take (bytes_of s) old → IsSet start magic kind new s
set_stays start magic kind old new s p same =
    let m = bytes_of s in
    let ends = end_is old s p.keys in
    let fits = front_fits new old m same (set_fits start magic kind old s p) in
    let count : count_in new ≡ count_in old = number_at-front 4 new old 28 m same (omega arith) in
    let words : words_in new ≡ words_in old =
    ap (λ n. words_at n new 32) count ∙ words_at-front (count_in old) new old 32 m same (omega arith) in
    let new_end : end_in new ≡ m = omega (arith, count) in
    let version : version_in new ≡ version_in old = number_at-front 4 new old 24 m same (omega arith) in
    let covered : slice_range new 8 (end_in new) ≡ slice_range old 8 (end_in old) =
    ap (slice_range new 8) new_end ∙ slice_range-front new old 8 m same (omega arith) ∙ ap (slice_range old 8) ends in
    record {
      whole = record {
        header = record {
          room = omega arith;
          magic = number_at-front 8 new old 8 m same (omega arith) ∙ p.whole.header.magic;
          version = subst IsVersion (sym version) p.whole.header.version;
        };
        long = omega arith;
        checksum =
            number_at-front 8 new old 0 m same (omega arith) ∙ p.whole.checksum
            ∙ ap (λ v. checksum (start_by v start) (slice_range old 8 (end_in old))) (sym version) ∙ ap (checksum (start_by (version_in new) start)) (sym covered);
      };
      seq = number_at-front 8 new old 16 m same (omega arith) ∙ p.seq;
      version = version ∙ p.version;
      keys = subst (λ (ws : List ℕ). SpellKeys ws s.keys) (sym words) p.keys;
      proper = p.proper;
    }

-- where it stands, that is the part of its length
pub place_fits : (start magic : ℕ) (kind : SetKind) (bytes : List ℕ) (place : ℕ) (s : Set) → StandsAt start magic kind bytes place s → place + bytes_of s ≤ length bytes
place_fits start magic kind bytes place s p =
    let fits = set_fits start magic kind (drop place bytes) s p in
    omega (arith, fits, length-drop place bytes)

pub place_stays : (start magic : ℕ) (kind : SetKind) (old new : List ℕ) (place : ℕ) (s : Set) → StandsAt start magic kind old place s
    → slice_range new place (place + bytes_of s) ≡ slice_range old place (place + bytes_of s) → StandsAt start magic kind new place s
place_stays start magic kind old new place s p same =
    set_stays start magic kind (drop place old) (drop place new) s p (sym (slice_range-take new place (bytes_of s)) ∙ same ∙ slice_range-take old place (bytes_of s))

-- ---- one reading

pub never_both : (start magic : ℕ) (kind : SetKind) (bytes : List ℕ) (s : Set) (e : SetError) → IsSet start magic kind bytes s → IsRefused start magic kind bytes e → ⊥
never_both start magic kind bytes s errors.Short p q =
    elim q [ inl few ↦ omega (arith, few, p.whole.header.room) | inr cut ↦ omega (arith, cut.1, p.whole.long) ]
never_both start magic kind bytes s errors.Magic p q = q.1 p.whole.header.magic
never_both start magic kind bytes s errors.Version p q = q.2 p.whole.header.version
never_both start magic kind bytes s errors.Checksum p q = q.2 p.whole.checksum
never_both start magic kind bytes s errors.Key p q = no_bad_key kind (words_in bytes) s.keys p.keys p.proper.each q.1
never_both start magic kind bytes s errors.Order p q =
    q.4 (subst (λ (keys : List Key). AreInOrder kind keys) (one_list (words_in bytes) s.keys q.1 p.keys q.2) p.proper.order)
never_both start magic kind bytes s errors.Memory p q = q

-- the reasons, pair by pair
module _ (start magic : ℕ) (kind : SetKind) (bytes : List ℕ) where
  short-magic : IsRefused start magic kind bytes errors.Short → IsRefused start magic kind bytes errors.Magic → ⊥
  short-magic p q = elim p [ inl few ↦ omega (arith, few, q.0) | inr cut ↦ q.1 cut.0.magic ]

  short-version : IsRefused start magic kind bytes errors.Short → IsRefused start magic kind bytes errors.Version → ⊥
  short-version p q = elim p [ inl few ↦ omega (arith, few, q.0) | inr cut ↦ q.2 cut.0.version ]

  short-checksum : IsRefused start magic kind bytes errors.Short → IsRefused start magic kind bytes errors.Checksum → ⊥
  short-checksum p q = elim p [ inl few ↦ omega (arith, few, q.0.room) | inr cut ↦ omega (arith, cut.1, q.1) ]

  short-key : IsRefused start magic kind bytes errors.Short → IsRefused start magic kind bytes errors.Key → ⊥
  short-key p q = elim p [ inl few ↦ omega (arith, few, q.0.header.room) | inr cut ↦ omega (arith, cut.1, q.0.long) ]

  short-order : IsRefused start magic kind bytes errors.Short → IsRefused start magic kind bytes errors.Order → ⊥
  short-order p q = elim p [ inl few ↦ omega (arith, few, q.0.header.room) | inr cut ↦ omega (arith, cut.1, q.0.long) ]

  magic-version : IsRefused start magic kind bytes errors.Magic → IsRefused start magic kind bytes errors.Version → ⊥
  magic-version p q = p.1 q.1

  magic-checksum : IsRefused start magic kind bytes errors.Magic → IsRefused start magic kind bytes errors.Checksum → ⊥
  magic-checksum p q = p.1 q.0.magic

  magic-key : IsRefused start magic kind bytes errors.Magic → IsRefused start magic kind bytes errors.Key → ⊥
  magic-key p q = p.1 q.0.header.magic

  magic-order : IsRefused start magic kind bytes errors.Magic → IsRefused start magic kind bytes errors.Order → ⊥
  magic-order p q = p.1 q.0.header.magic

  version-checksum : IsRefused start magic kind bytes errors.Version → IsRefused start magic kind bytes errors.Checksum → ⊥
  version-checksum p q = p.2 q.0.version

  version-key : IsRefused start magic kind bytes errors.Version → IsRefused start magic kind bytes errors.Key → ⊥
  version-key p q = p.2 q.0.header.version

  version-order : IsRefused start magic kind bytes errors.Version → IsRefused start magic kind bytes errors.Order → ⊥
  version-order p q = p.2 q.0.header.version

  checksum-key : IsRefused start magic kind bytes errors.Checksum → IsRefused start magic kind bytes errors.Key → ⊥
  checksum-key p q = p.2 q.0.checksum

  checksum-order : IsRefused start magic kind bytes errors.Checksum → IsRefused start magic kind bytes errors.Order → ⊥
  checksum-order p q = p.2 q.0.checksum

  key-order : IsRefused start magic kind bytes errors.Key → IsRefused start magic kind bytes errors.Order → ⊥
  key-order p q = no_bad_key kind (words_in bytes) q.1 q.2 q.3 p.1

  pub one_cause : (e f : SetError) → IsRefused start magic kind bytes e → IsRefused start magic kind bytes f → e ≡ f
  one_cause errors.Short errors.Short p q = refl
  one_cause errors.Short errors.Magic p q = absurd (short-magic p q)
  one_cause errors.Short errors.Version p q = absurd (short-version p q)
  one_cause errors.Short errors.Checksum p q = absurd (short-checksum p q)
  one_cause errors.Short errors.Key p q = absurd (short-key p q)
  one_cause errors.Short errors.Order p q = absurd (short-order p q)
  one_cause errors.Magic errors.Short p q = absurd (short-magic q p)
  one_cause errors.Magic errors.Magic p q = refl
  one_cause errors.Magic errors.Version p q = absurd (magic-version p q)
  one_cause errors.Magic errors.Checksum p q = absurd (magic-checksum p q)
  one_cause errors.Magic errors.Key p q = absurd (magic-key p q)
  one_cause errors.Magic errors.Order p q = absurd (magic-order p q)
  one_cause errors.Version errors.Short p q = absurd (short-version q p)
  one_cause errors.Version errors.Magic p q = absurd (magic-version q p)
  one_cause errors.Version errors.Version p q = refl
  one_cause errors.Version errors.Checksum p q = absurd (version-checksum p q)
  one_cause errors.Version errors.Key p q = absurd (version-key p q)
  one_cause errors.Version errors.Order p q = absurd (version-order p q)
  one_cause errors.Checksum errors.Short p q = absurd (short-checksum q p)
  one_cause errors.Checksum errors.Magic p q = absurd (magic-checksum q p)
  one_cause errors.Checksum errors.Version p q = absurd (version-checksum q p)
  one_cause errors.Checksum errors.Checksum p q = refl
  one_cause errors.Checksum errors.Key p q = absurd (checksum-key p q)
  one_cause errors.Checksum errors.Order p q = absurd (checksum-order p q)
  one_cause errors.Key errors.Short p q = absurd (short-key q p)
  one_cause errors.Key errors.Magic p q = absurd (magic-key q p)
  one_cause errors.Key errors.Version p q = absurd (version-key q p)
  one_cause errors.Key errors.Checksum p q = absurd (checksum-key q p)
  one_cause errors.Key errors.Key p q = refl
  one_cause errors.Key errors.Order p q = absurd (key-order p q)
  one_cause errors.Order errors.Short p q = absurd (short-order q p)
  one_cause errors.Order errors.Magic p q = absurd (magic-order q p)
  one_cause errors.Order errors.Version p q = absurd (version-order q p)
  one_cause errors.Order errors.Checksum p q = absurd (checksum-order q p)
  one_cause errors.Order errors.Key p q = absurd (key-order q p)
  one_cause errors.Order errors.Order p q = refl
  one_cause errors.Short errors.Memory p q = elim q [ ]
  one_cause errors.Magic errors.Memory p q = elim q [ ]
  one_cause errors.Version errors.Memory p q = elim q [ ]
  one_cause errors.Checksum errors.Memory p q = elim q [ ]
  one_cause errors.Key errors.Memory p q = elim q [ ]
  one_cause errors.Order errors.Memory p q = elim q [ ]
  one_cause errors.Memory f p q = elim p [ ]

-- what an answer says of each set and of each reason
module _ (start magic : ℕ) (kind : SetKind) (bytes : List ℕ) where
  pub only_set : (answer : Result Set SetError) → IfOk answer (IsSet start magic kind bytes) → IfErr answer (IsCause start magic kind bytes)
      → (s : Set) → IsSet start magic kind bytes s → MatchResult answer (λ r. r ≡ s) (λ e. e ≡ errors.Memory)
  only_set (Ok r) found refused s is = one_set start magic kind bytes r s found is
  only_set (Err e) found refused s is = elim refused [ inl memory ↦ memory | inr why ↦ absurd (never_both start magic kind bytes s e is why) ]

  pub exact_reason : (answer : Result Set SetError) → IfOk answer (IsSet start magic kind bytes) → IfErr answer (IsCause start magic kind bytes)
      → (e : SetError) → IsRefused start magic kind bytes e → (answer ≡ Err e) ⊎ (answer ≡ Err errors.Memory)
  exact_reason (Ok r) found refused e why = absurd (never_both start magic kind bytes r e found why)
  exact_reason (Err f) found refused e why = elim refused [ inl memory ↦ inr (ap (λ (x : SetError). Err x) memory) | inr too ↦ inl (ap (λ (x : SetError). Err x) (one_cause start magic kind bytes f e too why)) ]

-- ---- what was written

-- the fields and words that stand in the bytes are those of the set
pub record HasFields (start set_magic : ℕ) (bytes : List ℕ) (s : Set) : Type 0 where
  pub fits : bytes_of s ≤ length bytes
  pub magic : HasMagic set_magic bytes
  pub seq : number_at 8 bytes 16 ≡ s.seq
  pub version : version_in bytes ≡ 1
  pub count : count_in bytes ≡ length (words_of_all s.keys)
  pub words : words_in bytes ≡ words_of_all s.keys
  pub checksum : HasChecksum start bytes

pub IsSet-written : (start magic : ℕ) (bytes : List ℕ) (s : Set) → HasFields start magic bytes s → s.version ≡ 1
    → (kind : SetKind) (rest : List ℕ) → AreSetKeys kind s.keys → IsSet start magic kind (take (bytes_of s) bytes ++ rest) s
IsSet-written start magic bytes s has known kind rest proper =
    let fits = has.fits in
    let count = has.count in
    set_stays start magic kind bytes (take (bytes_of s) bytes ++ rest) s
    (record {
      whole = record { header = record { room = omega arith; magic = has.magic; version = inr has.version }; long = omega arith; checksum = has.checksum };
      seq = has.seq;
      version = has.version ∙ sym known;
      keys = SpellKeys-words_of (words_in bytes) s.keys has.words;
      proper = proper;
    })
    (take-front bytes rest (bytes_of s) fits)

-- ---- the order of keys

Follows-then : (kind : SetKind) (a b c : Key) → Follows kind a b → Follows kind b c → Follows kind a c
Follows-then Extents a b c p q = omega (arith, p, q)
Follows-then Children a b c p q = omega (arith, p, q)

-- the keys before a place are in order
abbrev pub InOrderBelow : SetKind → List Key → ℕ → Type 0
InOrderBelow kind keys n = (i j : ℕ) (d : Key) → i < j → j < n → Follows kind (get_or keys i d) (get_or keys j d)

-- and the next one follows the last of them
pub one_more : (kind : SetKind) (keys : List Key) (n : ℕ) → InOrderBelow kind keys n → ((d : Key) → 0 < n → Follows kind (get_or keys (n - 1) d) (get_or keys n d)) → InOrderBelow kind keys (n + 1)
one_more kind keys n below next i j d low high =
    elim (cases_lt j n) [
      | inl before ↦ below i j d low before
      | inr last ↦
          let here : n ≡ j = omega arith in
          subst (λ k. Follows kind (get_or keys i d) (get_or keys k d)) here
          (elim (cases_lt i (n - 1)) [
            | inl before ↦ Follows-then kind (get_or keys i d) (get_or keys (n - 1) d) (get_or keys n d) (below i (n - 1) d before (omega arith)) (next d (omega arith))
            | inr at_last ↦
                let there : n - 1 ≡ i = omega arith in
                subst (λ k. Follows kind (get_or keys k d) (get_or keys n d)) there (next d (omega arith))
          ])
    ]

-- ---- the loops

-- a pair of keys that were read
pub read_pair : (kind : SetKind) (keys : List Key) (i : ℕ) (a b : Key) → i < length keys → a ≡ get_or keys (i - 1) a → b ≡ get_or keys i b → Follows kind (get_or keys (i - 1) a) (get_or keys i a) → Follows kind a b
read_pair kind keys i a b inside a_is b_is follows =
    subst (Follows kind a) (get_or_default keys i a b inside ∙ sym b_is) (subst (λ (k : Key). Follows kind k (get_or keys i a)) (sym a_is) follows)

-- some key of those that were read may not stand in a set of this kind
pub bad_kept : (kind : SetKind) (bytes : List ℕ) (count : ℕ) (keys part : List Key) → count ≡ count_in bytes → SpellKeys (words_at count bytes 32) keys → part ≡ keys → Any (IsRefusedAs kind) part → HasBadKey kind (words_in bytes)
bad_kept kind bytes count keys part all spelled is bad =
    inr (keys, subst (λ n. SpellKeys (words_at n bytes 32) keys) all spelled, subst (λ (ks : List Key). Any (IsRefusedAs kind) ks) is bad)

-- ---- the writes of a set, one after the other

pub written_fields : (start magic : ℕ) (s : Set) (count sum : ℕ) (b1 b2 b3 b4 b5 b6 : List ℕ)
    → count ≡ length (words_of_all s.keys) → bytes_of s ≤ length b6 → s.version ≡ 1
    → words_at count b1 32 ≡ words_of_all s.keys
    → HasMagic magic b2 → SameOutside 8 b1 b2 8
    → number_at 8 b3 16 ≡ s.seq → SameOutside 8 b2 b3 16
    → version_in b4 ≡ s.version → SameOutside 4 b3 b4 24
    → count_in b5 ≡ count → SameOutside 4 b4 b5 28
    → sum ≡ checksum start (slice_range b5 8 (32 + 8 * count)) → number_at 8 b6 0 ≡ sum → SameOutside 8 b5 b6 0
    → HasFields start magic b6 s
written_fields start magic s count sum b1 b2 b3 b4 b5 b6 counted fits known words magic_is o2 seq_is o3 version_is o4 count_is o5 sum_is checksum_is o6 =
    let at_end : count_in b6 ≡ count = o6.numbers 4 28 (inr (omega arith)) ∙ count_is in
    let at_version : version_in b6 ≡ 1 = o6.numbers 4 24 (inr (omega arith)) ∙ o5.numbers 4 24 (inl (omega arith)) ∙ version_is ∙ known in
    let behind : (m : ℕ) (old new : List ℕ) (place : ℕ) → place + m ≤ 32 → SameOutside m old new place → words_at count new 32 ≡ words_at count old 32 =
    λ m old new place low same. words_at-kept count m old new 32 place same (inr low) in
    let covered : slice_range b6 8 (end_in b6) ≡ slice_range b5 8 (32 + 8 * count) =
    ap (λ n. slice_range b6 8 (32 + 8 * n)) at_end ∙ o6.parts 8 (32 + 8 * count) (inr (omega arith)) in
    record {
      fits = fits;
      magic = o6.numbers 8 8 (inr (omega arith)) ∙ o5.numbers 8 8 (inl (omega arith)) ∙ o4.numbers 8 8 (inl (omega arith)) ∙ o3.numbers 8 8 (inl (omega arith)) ∙ magic_is;
      seq = o6.numbers 8 16 (inr (omega arith)) ∙ o5.numbers 8 16 (inl (omega arith)) ∙ o4.numbers 8 16 (inl (omega arith)) ∙ seq_is;
      version = at_version;
      count = at_end ∙ counted;
      words =
          ap (λ n. words_at n b6 32) at_end
          ∙ behind 8 b5 b6 0 (omega arith) o6 ∙ behind 4 b4 b5 28 (omega arith) o5 ∙ behind 4 b3 b4 24 (omega arith) o4
          ∙ behind 8 b2 b3 16 (omega arith) o3 ∙ behind 8 b1 b2 8 (omega arith) o2 ∙ words;
      checksum = checksum_is ∙ sum_is ∙ ap (checksum start) (sym covered) ∙ ap (λ v. checksum (start_by v start) (slice_range b6 8 (end_in b6))) (sym at_version);
    }
