-- One entry at most begins bytes, and it rests on its own bytes alone.
use Rattle.std.proofs.Common.{subst, ◌≡◌, ◌⊎◌, inl, inr, ℕ, ◌+◌, ◌-◌, ◌*◌, ◌^◌, ◌<◌, ◌≤◌, List, ◌∷◌, ◌++◌, length, take, drop, slice_index, slice_range, replicate, refl, sym, ap, ◌∙◌, arith}
use Rattle.std.specs.Prelude.{All, Any, Result, Ok, Err, IfOk, IfErr, MatchResult}
use Rattle.std.proofs.lemmas.List.{length-drop}
use Rattle.bc_bytes.specs.Checksum.{checksum}
use Rattle.bc_bytes.specs.Fields.{number_at, SameOutside}
use Rattle.bc_key.proofs.KeyLaws.{one_key, Spells-front}
use Rattle.bc_key.specs.Key.{IsExtent}
use Rattle.bc_key.specs.Words.{Spells}
use Rattle.bc_key.specs.declared.key.Key.{Key}
use Rattle.bc_keys.specs.declared.error.KeysError.{KeysError}
use Rattle.bc_keys.specs.declared.error.KeysError.TheVariants as keys_errors
use Rattle.bc_keys.specs.Spelling.{IsCause as AreNoKeys, words_at, words_of_all, SpellKeys, AreRefused, HasSizeOverEnd}
use Rattle.bc_keys.proofs.KeyLists.{one_list, never_both as keys_never_both, Spells-refused, length-SpellKeys, SpellKeys-words_of}
use Rattle.bc_keys.proofs.WordsAt.{length-words_at, get_or-words_at, number_at-front, words_at-front, words_at-kept, slice_range-front, slice_range-take, front_fits, take-front}
use Rattle.bc_jset.specs.declared.entry.JEntry.{JEntry}
use Rattle.bc_jset.specs.declared.error.JsetError.{JsetError}
use Rattle.bc_jset.specs.declared.error.JsetError.TheVariants as errors
use Rattle.bc_jset.specs.EntryBytes.{IsEntry, IsWhole, HasChecksum, HasBadKey, uuid_bucket, root, words, size, StandsAt, IsRefused, IsCause, error_of, IsLevel, bytes_of, most_words, count_in, end_in, level_in, words_in, uuid_words, root_words}
use Rattle.bc_jset.specs.Fields.{HasNumbers, HasPlaces}

same_entry : (d e : JEntry) → d.seq ≡ e.seq → d.last_seq ≡ e.last_seq → d.uuid_bucket ≡ e.uuid_bucket → d.root ≡ e.root → d.level ≡ e.level → d.prio ≡ e.prio → d.keys ≡ e.keys → d ≡ e
same_entry d e seq last_seq bucket top level prio keys = λ i. record { seq = seq i; last_seq = last_seq i; uuid_bucket = bucket i; root = top i; level = level i; prio = prio i; keys = keys i }

pub one_entry : (magic : ℕ) (bytes : List ℕ) (d e : JEntry) → IsEntry magic bytes d → IsEntry magic bytes e → d ≡ e
one_entry magic bytes d e p q =
    same_entry d e
    (sym p.seq ∙ q.seq) (sym p.last_seq ∙ q.last_seq)
    (one_key (uuid_words bytes) d.uuid_bucket e.uuid_bucket p.uuid_bucket q.uuid_bucket)
    (one_key (root_words bytes) d.root e.root p.root q.root)
    (sym p.level ∙ q.level) (sym p.prio ∙ q.prio)
    (one_list (words_in bytes) d.keys e.keys p.keys q.keys)

-- ---- an entry rests on its own bytes

-- it ends where its words do
pub end_is : (bytes : List ℕ) (e : JEntry) → SpellKeys (words_in bytes) e.keys → bytes_of e ≡ end_in bytes
end_is bytes e keys =
    let all = length-SpellKeys (words_in bytes) e.keys keys in
    let count = length-words_at (count_in bytes) bytes 240 in
    omega arith

pub entry_fits : (magic : ℕ) (bytes : List ℕ) (e : JEntry) → IsEntry magic bytes e → bytes_of e ≤ length bytes
entry_fits magic bytes e p =
    let ends = end_is bytes e p.keys in
    let long = p.whole.long in
    omega arith

pub entry_stays : (magic : ℕ) (old new : List ℕ) (e : JEntry) → IsEntry magic old e → take (bytes_of e) new ≡ take (bytes_of e) old → IsEntry magic new e
entry_stays magic old new e p same =
    let m = bytes_of e in
    let ends = end_is old e p.keys in
    let fits = front_fits new old m same (entry_fits magic old e p) in
    let count : count_in new ≡ count_in old = number_at-front 4 new old 28 m same (omega arith) in
    let all : words_in new ≡ words_in old =
    ap (λ n. words_at n new 240) count ∙ words_at-front (count_in old) new old 240 m same (omega arith) in
    let new_end : end_in new ≡ m = omega (arith, count) in
    let covered : slice_range new 8 (end_in new) ≡ slice_range old 8 (end_in old) =
    ap (slice_range new 8) new_end ∙ slice_range-front new old 8 m same (omega arith) ∙ ap (slice_range old 8) ends in
    let few = p.whole.few in
    record {
      whole = record {
        header = record {
          room = omega arith;
          magic = number_at-front 8 new old 8 m same (omega arith) ∙ p.whole.header.magic;
          version = number_at-front 4 new old 24 m same (omega arith) ∙ p.whole.header.version;
        };
        few = omega arith;
        long = omega arith;
        checksum = number_at-front 8 new old 0 m same (omega arith) ∙ p.whole.checksum ∙ ap (checksum (2 ^ 64 - 1)) (sym covered);
      };
      seq = number_at-front 8 new old 16 m same (omega arith) ∙ p.seq;
      last_seq = number_at-front 8 new old 32 m same (omega arith) ∙ p.last_seq;
      uuid_bucket = subst (λ (ws : List ℕ). Spells ws e.uuid_bucket) (sym (words_at-front 8 new old 40 m same (omega arith))) p.uuid_bucket;
      root = subst (λ (ws : List ℕ). Spells ws e.root) (sym (words_at-front 8 new old 104 m same (omega arith))) p.root;
      level = number_at-front 2 new old 168 m same (omega arith) ∙ p.level;
      known_level = p.known_level;
      prio = number_at-front 8 new old 176 m same (omega arith) ∙ p.prio;
      keys = subst (λ (ws : List ℕ). SpellKeys ws e.keys) (sym all) p.keys;
      extents = p.extents;
    }

-- where it stands, that is the part of its length
pub place_fits : (magic : ℕ) (bytes : List ℕ) (place : ℕ) (e : JEntry) → StandsAt magic bytes place e → place + bytes_of e ≤ length bytes
place_fits magic bytes place e p =
    let fits = entry_fits magic (drop place bytes) e p in
    omega (arith, fits, length-drop place bytes)

pub place_stays : (magic : ℕ) (old new : List ℕ) (place : ℕ) (e : JEntry) → StandsAt magic old place e
    → slice_range new place (place + bytes_of e) ≡ slice_range old place (place + bytes_of e) → StandsAt magic new place e
place_stays magic old new place e p same =
    entry_stays magic (drop place old) (drop place new) e p (sym (slice_range-take new place (bytes_of e)) ∙ same ∙ slice_range-take old place (bytes_of e))

-- ---- one reading

no_refused : (keys : List Key) → All IsExtent keys → Any HasSizeOverEnd keys → ⊥
no_refused keys each bad = omega (arith, each bad.0 bad.1 bad.2, bad.4, ap (λ (key : Key). key.end) bad.3, ap (λ (key : Key). key.size) bad.3)

no_bad_key : (magic : ℕ) (bytes : List ℕ) (e : JEntry) → IsEntry magic bytes e → HasBadKey bytes → ⊥
no_bad_key magic bytes e p (uuid_bucket fault refused) = Spells-refused (uuid_words bytes) e.uuid_bucket fault p.uuid_bucket refused
no_bad_key magic bytes e p (root fault refused) = Spells-refused (root_words bytes) e.root fault p.root refused
no_bad_key magic bytes e p (words fault refused) = keys_never_both (words_in bytes) e.keys fault p.keys refused
no_bad_key magic bytes e p (size keys spelled bad) =
    no_refused e.keys p.extents (subst (λ (ks : List Key). Any HasSizeOverEnd ks) (one_list (words_in bytes) keys e.keys spelled p.keys) bad)

pub never_both : (magic : ℕ) (bytes : List ℕ) (e : JEntry) (f : JsetError) → IsEntry magic bytes e → IsRefused magic bytes f → ⊥
never_both magic bytes e errors.Short p q =
    elim q [
      | inl few ↦ omega (arith, few, p.whole.header.room)
      | inr cut ↦ elim cut.1 [ inl many ↦ omega (arith, many, p.whole.few) | inr long ↦ omega (arith, long, p.whole.long) ]
    ]
never_both magic bytes e errors.Magic p q = q.1 p.whole.header.magic
never_both magic bytes e errors.Version p q = q.2 p.whole.header.version
never_both magic bytes e errors.Checksum p q = q.3 p.whole.checksum
never_both magic bytes e errors.Level p q = q.1 (subst IsLevel (sym p.level) p.known_level)
never_both magic bytes e errors.Key p q = no_bad_key magic bytes e p q.2
never_both magic bytes e errors.Memory p q = q

-- the reasons, pair by pair
module _ (magic : ℕ) (bytes : List ℕ) where
  short-magic : IsRefused magic bytes errors.Short → IsRefused magic bytes errors.Magic → ⊥
  short-magic p q = elim p [ inl short ↦ omega (arith, short, q.0) | inr cut ↦ q.1 cut.0.magic ]

  short-version : IsRefused magic bytes errors.Short → IsRefused magic bytes errors.Version → ⊥
  short-version p q = elim p [ inl short ↦ omega (arith, short, q.0) | inr cut ↦ q.2 cut.0.version ]

  short-checksum : IsRefused magic bytes errors.Short → IsRefused magic bytes errors.Checksum → ⊥
  short-checksum p q = elim p [ inl short ↦ omega (arith, short, q.0.room) | inr cut ↦ elim cut.1 [ inl many ↦ omega (arith, many, q.1) | inr past ↦ omega (arith, past, q.2) ] ]

  short-level : IsRefused magic bytes errors.Short → IsRefused magic bytes errors.Level → ⊥
  short-level p q = elim p [ inl short ↦ omega (arith, short, q.0.header.room) | inr cut ↦ elim cut.1 [ inl many ↦ omega (arith, many, q.0.few) | inr past ↦ omega (arith, past, q.0.long) ] ]

  short-key : IsRefused magic bytes errors.Short → IsRefused magic bytes errors.Key → ⊥
  short-key p q = elim p [ inl short ↦ omega (arith, short, q.0.header.room) | inr cut ↦ elim cut.1 [ inl many ↦ omega (arith, many, q.0.few) | inr past ↦ omega (arith, past, q.0.long) ] ]

  magic-version : IsRefused magic bytes errors.Magic → IsRefused magic bytes errors.Version → ⊥
  magic-version p q = p.1 q.1

  magic-checksum : IsRefused magic bytes errors.Magic → IsRefused magic bytes errors.Checksum → ⊥
  magic-checksum p q = p.1 q.0.magic

  magic-level : IsRefused magic bytes errors.Magic → IsRefused magic bytes errors.Level → ⊥
  magic-level p q = p.1 q.0.header.magic

  magic-key : IsRefused magic bytes errors.Magic → IsRefused magic bytes errors.Key → ⊥
  magic-key p q = p.1 q.0.header.magic

  version-checksum : IsRefused magic bytes errors.Version → IsRefused magic bytes errors.Checksum → ⊥
  version-checksum p q = p.2 q.0.version

  version-level : IsRefused magic bytes errors.Version → IsRefused magic bytes errors.Level → ⊥
  version-level p q = p.2 q.0.header.version

  version-key : IsRefused magic bytes errors.Version → IsRefused magic bytes errors.Key → ⊥
  version-key p q = p.2 q.0.header.version

  checksum-level : IsRefused magic bytes errors.Checksum → IsRefused magic bytes errors.Level → ⊥
  checksum-level p q = p.3 q.0.checksum

  checksum-key : IsRefused magic bytes errors.Checksum → IsRefused magic bytes errors.Key → ⊥
  checksum-key p q = p.3 q.0.checksum

  level-key : IsRefused magic bytes errors.Level → IsRefused magic bytes errors.Key → ⊥
  level-key p q = p.1 q.1

  pub one_cause : (f g : JsetError) → IsRefused magic bytes f → IsRefused magic bytes g → f ≡ g
  one_cause errors.Short errors.Short p q = refl
  one_cause errors.Short errors.Magic p q = absurd (short-magic p q)
  one_cause errors.Short errors.Version p q = absurd (short-version p q)
  one_cause errors.Short errors.Checksum p q = absurd (short-checksum p q)
  one_cause errors.Short errors.Level p q = absurd (short-level p q)
  one_cause errors.Short errors.Key p q = absurd (short-key p q)
  one_cause errors.Magic errors.Short p q = absurd (short-magic q p)
  one_cause errors.Magic errors.Magic p q = refl
  one_cause errors.Magic errors.Version p q = absurd (magic-version p q)
  one_cause errors.Magic errors.Checksum p q = absurd (magic-checksum p q)
  one_cause errors.Magic errors.Level p q = absurd (magic-level p q)
  one_cause errors.Magic errors.Key p q = absurd (magic-key p q)
  one_cause errors.Version errors.Short p q = absurd (short-version q p)
  one_cause errors.Version errors.Magic p q = absurd (magic-version q p)
  one_cause errors.Version errors.Version p q = refl
  one_cause errors.Version errors.Checksum p q = absurd (version-checksum p q)
  one_cause errors.Version errors.Level p q = absurd (version-level p q)
  one_cause errors.Version errors.Key p q = absurd (version-key p q)
  one_cause errors.Checksum errors.Short p q = absurd (short-checksum q p)
  one_cause errors.Checksum errors.Magic p q = absurd (magic-checksum q p)
  one_cause errors.Checksum errors.Version p q = absurd (version-checksum q p)
  one_cause errors.Checksum errors.Checksum p q = refl
  one_cause errors.Checksum errors.Level p q = absurd (checksum-level p q)
  one_cause errors.Checksum errors.Key p q = absurd (checksum-key p q)
  one_cause errors.Level errors.Short p q = absurd (short-level q p)
  one_cause errors.Level errors.Magic p q = absurd (magic-level q p)
  one_cause errors.Level errors.Version p q = absurd (version-level q p)
  one_cause errors.Level errors.Checksum p q = absurd (checksum-level q p)
  one_cause errors.Level errors.Level p q = refl
  one_cause errors.Level errors.Key p q = absurd (level-key p q)
  one_cause errors.Key errors.Short p q = absurd (short-key q p)
  one_cause errors.Key errors.Magic p q = absurd (magic-key q p)
  one_cause errors.Key errors.Version p q = absurd (version-key q p)
  one_cause errors.Key errors.Checksum p q = absurd (checksum-key q p)
  one_cause errors.Key errors.Level p q = absurd (level-key q p)
  one_cause errors.Key errors.Key p q = refl
  one_cause errors.Short errors.Memory p q = elim q [ ]
  one_cause errors.Magic errors.Memory p q = elim q [ ]
  one_cause errors.Version errors.Memory p q = elim q [ ]
  one_cause errors.Checksum errors.Memory p q = elim q [ ]
  one_cause errors.Level errors.Memory p q = elim q [ ]
  one_cause errors.Key errors.Memory p q = elim q [ ]
  one_cause errors.Memory g p q = elim p [ ]

  -- what an answer says of each entry and of each reason
  pub only_entry : (answer : Result JEntry JsetError) → IfOk answer (IsEntry magic bytes) → IfErr answer (IsCause magic bytes)
      → (e : JEntry) → IsEntry magic bytes e → MatchResult answer (λ r. r ≡ e) (λ f. f ≡ errors.Memory)
  only_entry (Ok r) found refused e is = one_entry magic bytes r e found is
  only_entry (Err f) found refused e is = elim refused [ inl memory ↦ memory | inr why ↦ absurd (never_both magic bytes e f is why) ]

  pub same_reason : (cause f : JsetError) → IsCause magic bytes cause → IsRefused magic bytes f → (cause ≡ f) ⊎ (cause ≡ errors.Memory)
  same_reason cause f why too = elim why [ inl memory ↦ inr memory | inr refused ↦ inl (one_cause cause f refused too) ]

-- the refusal for the words behind the header
pub keys_cause : (magic : ℕ) (bytes : List ℕ) (count : ℕ) (cause : KeysError) → IsWhole magic bytes → IsLevel (level_in bytes) → count ≡ count_in bytes → AreNoKeys (words_at count bytes 240) cause → IsCause magic bytes (error_of cause)
keys_cause magic bytes count (keys_errors.Key fault) whole level all refused = inr (whole, level, words fault (subst (λ n. AreRefused (words_at n bytes 240) fault) all refused))
keys_cause magic bytes count keys_errors.Memory whole level all refused = inl refl

-- the refusal for the size of an extent
pub size_cause : (magic : ℕ) (bytes : List ℕ) (count : ℕ) (keys part : List Key) → IsWhole magic bytes → IsLevel (level_in bytes) → count ≡ count_in bytes → SpellKeys (words_at count bytes 240) keys → part ≡ keys → Any HasSizeOverEnd part → IsCause magic bytes errors.Key
size_cause magic bytes count keys part whole level all spelled is bad =
    inr (whole, level, size keys (subst (λ n. SpellKeys (words_at n bytes 240) keys) all spelled) (subst (λ (ks : List Key). Any HasSizeOverEnd ks) is bad))

-- ---- what was written

-- the fields and words that stand in the bytes are those of the entry
pub record HasFields (set_magic : ℕ) (bytes : List ℕ) (e : JEntry) : Type 0 where
  pub fits : bytes_of e ≤ length bytes
  pub numbers : HasNumbers set_magic (length (words_of_all e.keys)) bytes e
  pub places : HasPlaces bytes e
  pub keys : words_in bytes ≡ words_of_all e.keys
  pub checksum : HasChecksum bytes

-- a number of 16 bits in a word with nothing above it
level_alone : (bytes : List ℕ) (level : ℕ) → level < 2 ^ 16 → number_at 8 bytes 168 ≡ level → number_at 2 bytes 168 ≡ level
unfolding number_at
level_alone bytes level small is = omega arith

nth_other : (bytes : List ℕ) (e : JEntry) → HasPlaces bytes e → (i : ℕ) → i < 9 → number_at 8 bytes (168 + 8 * i) ≡ slice_index (e.level ∷ e.prio ∷ replicate 7 0) i
nth_other bytes e p i h = sym (get_or-words_at 9 bytes 168 i h) ∙ ap (λ ws. slice_index ws i) p.others

level_small : (level : ℕ) → IsLevel level → level < 2 ^ 16
level_small level (inl one) = omega (arith, one)
level_small level (inr two) = omega (arith, two)

pub IsEntry-written : (magic : ℕ) (bytes : List ℕ) (e : JEntry) → HasFields magic bytes e → length (words_of_all e.keys) ≤ most_words → IsLevel e.level → All IsExtent e.keys
    → (rest : List ℕ) → IsEntry magic (take (bytes_of e) bytes ++ rest) e
IsEntry-written magic bytes e has few level extents rest =
    let fits = has.fits in
    let count = has.numbers.count in
    entry_stays magic bytes (take (bytes_of e) bytes ++ rest) e
    (record {
      whole = record { header = record { room = omega arith; magic = has.numbers.magic; version = has.numbers.version }; few = omega arith; long = omega arith; checksum = has.checksum };
      seq = has.numbers.seq;
      last_seq = has.numbers.last_seq;
      uuid_bucket = Spells-front (uuid_words bytes) e.uuid_bucket (replicate (6 - e.uuid_bucket.count) 0) has.places.uuid_bucket;
      root = Spells-front (root_words bytes) e.root (replicate (6 - e.root.count) 0) has.places.root;
      level = level_alone bytes e.level (level_small e.level level) (nth_other bytes e has.places 0 (omega arith));
      known_level = level;
      prio = nth_other bytes e has.places 1 (omega arith);
      keys = SpellKeys-words_of (words_in bytes) e.keys has.keys;
      extents = extents;
    })
    (take-front bytes rest (bytes_of e) fits)

-- ---- the writes of an entry, one after the other

numbers_kept : (magic count n : ℕ) (old new : List ℕ) (at : ℕ) (e : JEntry) → SameOutside n old new at → (40 ≤ at) ⊎ (at + n ≤ 8) → HasNumbers magic count old e → HasNumbers magic count new e
numbers_kept magic count n old new at e same apart p =
    let outside : (m k : ℕ) → 8 ≤ k → k + m ≤ 40 → number_at m new k ≡ number_at m old k =
    λ m k low high. same.numbers m k (elim apart [ inl behind ↦ inl (omega arith) | inr before ↦ inr (omega arith) ]) in
    record {
      magic = outside 8 8 (omega arith) (omega arith) ∙ p.magic;
      seq = outside 8 16 (omega arith) (omega arith) ∙ p.seq;
      version = outside 4 24 (omega arith) (omega arith) ∙ p.version;
      count = outside 4 28 (omega arith) (omega arith) ∙ p.count;
      last_seq = outside 8 32 (omega arith) (omega arith) ∙ p.last_seq;
    }

places_kept : (n : ℕ) (old new : List ℕ) (at : ℕ) (e : JEntry) → SameOutside n old new at → (240 ≤ at) ⊎ (at + n ≤ 40) → HasPlaces old e → HasPlaces new e
places_kept n old new at e same apart p =
    let outside : (m k : ℕ) → 40 ≤ k → k + 8 * m ≤ 240 → words_at m new k ≡ words_at m old k =
    λ m k low high. words_at-kept m n old new k at same (elim apart [ inl behind ↦ inl (omega arith) | inr before ↦ inr (omega arith) ]) in
    record {
      uuid_bucket = outside 8 40 (omega arith) (omega arith) ∙ p.uuid_bucket;
      root = outside 8 104 (omega arith) (omega arith) ∙ p.root;
      others = outside 9 168 (omega arith) (omega arith) ∙ p.others;
    }

-- the words, the numbers, the places and the checksum
pub written_fields : (magic : ℕ) (e : JEntry) (count sum : ℕ) (b1 b2 b3 b4 : List ℕ)
    → count ≡ length (words_of_all e.keys) → bytes_of e ≤ length b4
    → words_at count b1 240 ≡ words_of_all e.keys
    → HasNumbers magic count b2 e → SameOutside 32 b1 b2 8
    → HasPlaces b3 e → SameOutside 200 b2 b3 40
    → sum ≡ checksum (2 ^ 64 - 1) (slice_range b3 8 (240 + 8 * count)) → number_at 8 b4 0 ≡ sum → SameOutside 8 b3 b4 0
    → HasFields magic b4 e
written_fields magic e count sum b1 b2 b3 b4 counted fits keys numbers o2 places o3 sum_is checksum_is o4 =
    let numbers_now = numbers_kept magic count 8 b3 b4 0 e o4 (inr (omega arith)) (numbers_kept magic count 200 b2 b3 40 e o3 (inl (omega arith)) numbers) in
    let places_now = places_kept 8 b3 b4 0 e o4 (inr (omega arith)) places in
    let covered : slice_range b4 8 (end_in b4) ≡ slice_range b3 8 (240 + 8 * count) =
    ap (λ n. slice_range b4 8 (240 + 8 * n)) numbers_now.count ∙ o4.parts 8 (240 + 8 * count) (inr (omega arith)) in
    record {
      fits = fits;
      numbers = subst (λ n. HasNumbers magic n b4 e) counted numbers_now;
      places = places_now;
      keys =
          ap (λ n. words_at n b4 240) numbers_now.count
          ∙ words_at-kept count 8 b3 b4 240 0 o4 (inr (omega arith)) ∙ words_at-kept count 200 b2 b3 240 40 o3 (inr (omega arith))
          ∙ words_at-kept count 32 b1 b2 240 8 o2 (inr (omega arith)) ∙ keys;
      checksum = checksum_is ∙ sum_is ∙ ap (checksum (2 ^ 64 - 1)) (sym covered);
    }
