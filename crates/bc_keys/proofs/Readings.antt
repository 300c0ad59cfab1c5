-- Keys that are read from words in bytes.
use Rattle.std.proofs.Common.{subst, ◌≡◌, ◌⊎◌, inl, inr, ℕ, ◌+◌, ◌-◌, ◌*◌, ◌/◌, ◌%◌, ◌^◌, ◌<◌, ◌≤◌, List, [], ◌∷◌, ◌++◌, length, drop, slice_index, min, sym, ap, ◌∙◌, arith}
use Rattle.std.specs.Prelude.{Result, Ok, Err, IfOk, IfErr}
use Rattle.std.proofs.lemmas.Bool.{cases_lt}
use Rattle.std.proofs.lemmas.List.{get_or_past}
use Rattle.bc_key.specs.declared.error.KeyError.{KeyError}
use Rattle.bc_key.specs.declared.error.KeyError.TheVariants.{Short, Pointers, SizeOverOffset}
use Rattle.bc_key.specs.declared.key.Key.{Key}
use Rattle.bc_key.specs.Key.{ptr_at}
use Rattle.bc_key.specs.Words.{Spells, Refuses, ReadsAsHigh, ReadsAsPtr, count_in}
use Rattle.bc_keys.specs.Spelling.{words_at, SpellThen, SpellKeys, AreRefused}
use Rattle.bc_keys.proofs.WordsAt.{length-words_at, get_or-words_at, drop-words_at, no_words}
use Rattle.bc_keys.proofs.KeyLists.{SpellThen-more}

-- both have the same words as far as a key may need them
pub record SameFront (a b : List ℕ) : Type 0 where
  pub words : (i : ℕ) → slice_index a i ≡ slice_index b i ⊎ (8 ≤ i)
  pub longer : (n : ℕ) → n ≤ 8 → n ≤ length a → n ≤ length b

word_of : (a b : List ℕ) → SameFront a b → (i : ℕ) → i < 8 → slice_index a i ≡ slice_index b i
word_of a b same i h = elim (same.words i) [ inl e ↦ e | inr past ↦ absurd (omega arith) ]

pub Spells-same : (a b : List ℕ) (key : Key) → SameFront a b → Spells a key → Spells b key
Spells-same a b key same spelled =
    let few = key.count_fits in
    record {
      long = same.longer (2 + key.count) (omega arith) spelled.long;
      high = subst (λ w. ReadsAsHigh w key) (word_of a b same 0 (omega arith)) spelled.high;
      end = sym (word_of a b same 1 (omega arith)) ∙ spelled.end;
      ptrs = λ i h. subst (λ w. ReadsAsPtr w (ptr_at key i)) (word_of a b same (2 + i) (omega arith)) (spelled.ptrs i h);
    }

Refuses-same : (a b : List ℕ) (fault : KeyError) → SameFront a b → SameFront b a → Refuses a fault → Refuses b fault
Refuses-same a b Short same back refused =
    let count : count_in a ≡ count_in b = ap (λ w. w / 2 ^ 60 % 2 ^ 3) (word_of a b same 0 (omega arith)) in
    let few : count_in b < 8 = omega arith in
    ((λ e. refused.0 (count ∙ e)), elim (cases_lt (length b) (2 + count_in b)) [ inl short ↦ short | inr long ↦ absurd (let long_too = back.longer (2 + count_in b) (omega (arith, refused.0, count)) long in omega (arith, refused.1, count, long_too)) ])
Refuses-same a b Pointers same back refused =
    ap (λ w. w / 2 ^ 60 % 2 ^ 3) (sym (word_of a b same 0 (omega arith))) ∙ refused
Refuses-same a b SizeOverOffset same back refused = refused

-- the words of which a key is read stand for all
module _ (bytes : List ℕ) (at count held : ℕ) (is : held ≡ min count 8) where
  word_same : (i : ℕ) → slice_index (words_at held bytes at) i ≡ slice_index (words_at count bytes at) i ⊎ (8 ≤ i)
  word_same i =
      let held_length = length-words_at held bytes at in
      let count_length = length-words_at count bytes at in
      elim (cases_lt i held) [
        | inl inside ↦ inl (get_or-words_at held bytes at i inside ∙ sym (get_or-words_at count bytes at i (omega arith)))
        | inr past ↦ elim (cases_lt i 8) [
          | inl low ↦ inl (get_or_past (words_at held bytes at) i 0 (omega arith) ∙ sym (get_or_past (words_at count bytes at) i 0 (omega arith)))
          | inr high ↦ inr high
        ]
      ]

  pub front : SameFront (words_at held bytes at) (words_at count bytes at)
  front = record {
    words = word_same;
    longer = λ n few long. (let a = length-words_at held bytes at in let b = length-words_at count bytes at in omega arith);
  }

  pub back : SameFront (words_at count bytes at) (words_at held bytes at)
  back = record {
    words = λ i. elim (word_same i) [ inl e ↦ inl (sym e) | inr past ↦ inr past ];
    longer = λ n few long. (let a = length-words_at held bytes at in let b = length-words_at count bytes at in omega arith);
  }

  pub found_in_all : (part : List ℕ) (answer : Result (Key × ℕ) KeyError) → part ≡ words_at held bytes at
      → IfOk answer (λ r. Spells part r.0 × (r.1 ≡ 2 + r.0.count)) → IfOk answer (λ r. Spells (words_at count bytes at) r.0 × (r.1 ≡ 2 + r.0.count))
  found_in_all part (Ok r) e found = (Spells-same (words_at held bytes at) (words_at count bytes at) r.0 front (subst (λ (ws : List ℕ). Spells ws r.0) e found.0), found.1)
  found_in_all part (Err fault) e found = tt

  pub spelled_in_part : (part : List ℕ) (key : Key) → part ≡ words_at held bytes at → Spells (words_at count bytes at) key → Spells part key
  spelled_in_part part key e spelled = subst (λ (ws : List ℕ). Spells ws key) (sym e) (Spells-same (words_at count bytes at) (words_at held bytes at) key back spelled)

  pub refused_in_all : (part : List ℕ) (answer : Result (Key × ℕ) KeyError) → part ≡ words_at held bytes at
      → IfErr answer (Refuses part) → IfErr answer (Refuses (words_at count bytes at))
  refused_in_all part (Ok r) e refused = tt
  refused_in_all part (Err fault) e refused = Refuses-same (words_at held bytes at) (words_at count bytes at) fault front back (subst (λ (ws : List ℕ). Refuses ws fault) e refused)

-- ---- the loop over keys, with so many words taken

module _ (bytes : List ℕ) (at count taken : ℕ) (keys : List Key) (read : SpellThen (words_at count bytes at) keys (words_at (count - taken) bytes (at + 8 * taken))) where
  -- the next words are refused
  pub refused_here : (fault : KeyError) → taken < count → Refuses (words_at (count - taken) bytes (at + 8 * taken)) fault → AreRefused (words_at count bytes at) fault
  refused_here fault more refused = record {
    before = keys;
    rest = words_at (count - taken) bytes (at + 8 * taken);
    parts = read;
    more = omega (arith, length-words_at (count - taken) bytes (at + 8 * taken));
    cause = refused;
  }

  -- the next words are a key's
  pub has_room : (key : Key) (n : ℕ) → n ≡ 2 + key.count → taken ≤ count → Spells (words_at (count - taken) bytes (at + 8 * taken)) key → taken + n ≤ count
  has_room key n is within spelled = omega (arith, spelled.long, length-words_at (count - taken) bytes (at + 8 * taken))

  pub read_on : (key : Key) (n : ℕ) (new : List Key) → n ≡ 2 + key.count → taken ≤ count → Spells (words_at (count - taken) bytes (at + 8 * taken)) key → new ≡ keys ++ key ∷ []
      → SpellThen (words_at count bytes at) new (words_at (count - (taken + n)) bytes (at + 8 * (taken + n)))
  read_on key n new is within spelled more =
      let room = has_room key n is within spelled in
      let left : count - taken - (2 + key.count) ≡ count - (taken + n) = omega arith in
      let place : at + 8 * taken + 8 * (2 + key.count) ≡ at + 8 * (taken + n) = omega arith in
      let dropped : drop (2 + key.count) (words_at (count - taken) bytes (at + 8 * taken)) ≡ words_at (count - (taken + n)) bytes (at + 8 * (taken + n)) =
      drop-words_at (2 + key.count) (count - taken) bytes (at + 8 * taken) (omega arith)
      ∙ ap (λ m. words_at m bytes (at + 8 * taken + 8 * (2 + key.count))) left
      ∙ ap (words_at (count - (taken + n)) bytes) place in
      subst (λ (ks : List Key). SpellThen (words_at count bytes at) ks (words_at (count - (taken + n)) bytes (at + 8 * (taken + n)))) (sym more)
      (subst (SpellThen (words_at count bytes at) (keys ++ key ∷ [])) dropped (SpellThen-more (words_at count bytes at) keys _ key read spelled))

  -- all words are taken
  pub all_read : (result : List Key) → count ≤ taken → result ≡ keys → SpellKeys (words_at count bytes at) result
  all_read result done is =
      subst (SpellKeys (words_at count bytes at)) (sym is)
      (subst (SpellThen (words_at count bytes at) keys) (no_words bytes (at + 8 * taken) (count - taken) (omega arith)) read)
