-- Lists of keys and their words.
use Rattle.std.proofs.Common.{subst, ◌≡◌, inl, ℕ, ◌+◌, ◌*◌, ◌<◌, ◌≤◌, List, [], ◌∷◌, ◌++◌, length, take, drop, get_or, refl, sym, ap, ◌∙◌, arith}
use Rattle.std.specs.Prelude.{Result, Ok, Err, IfErr, is_err, true}
use Rattle.std.proofs.lemmas.List.{append-nil, append_assoc, drop_at, flat_map_more, length-append, length-drop, length-map, length-take-le, take_more}
use Rattle.std.proofs.lemmas.List.Folds.{length-flat_map-take}
use Rattle.bc_key.proofs.KeyLaws.{one_key, Spells-words_of}
use Rattle.bc_key.specs.declared.error.KeyError.{KeyError}
use Rattle.bc_key.specs.declared.error.KeyError.TheVariants.{Short, Pointers, SizeOverOffset}
use Rattle.bc_key.specs.declared.key.Key.{Key}
use Rattle.bc_key.specs.Words.{Spells, Refuses, ptr_word, words_of}
use Rattle.bc_bytes.specs.Fields.{SameOutside}
use Rattle.bc_keys.specs.Spelling.{HasSizeOverEnd, words_at, SpellThen, SpellKeys, AreRefused, words_of_all}
use Rattle.bc_keys.proofs.WordsAt.{words_at-add, words_at-kept}

pub length-words_of : (key : Key) → length (words_of key) ≡ 2 + key.count
unfolding words_of
length-words_of key =
    let six = key.six_places in
    let few = key.count_fits in
    let many = length-map (take key.count key.ptrs) ptr_word ∙ length-take-le key.count key.ptrs (omega arith) in
    omega arith

-- words that are a key's aren't refused
pub Spells-refused : (words : List ℕ) (key : Key) (fault : KeyError) → Spells words key → Refuses words fault → ⊥
Spells-refused words key Short spelled refused = omega (arith, spelled.long, spelled.high.count, refused.1)
Spells-refused words key Pointers spelled refused = omega (arith, spelled.high.count, key.count_fits, refused)
Spells-refused words key SizeOverOffset spelled refused = refused

some_word : (words : List ℕ) (key : Key) → Spells words key → words ≡ [] → ⊥
some_word words key spelled none = omega (arith, spelled.long, ap (λ (ws : List ℕ). length ws) none)

-- the same rest behind keys that are equal
same_rest : (words : List ℕ) (a b : Key) (keys : List Key) (rest : List ℕ) → a ≡ b → SpellThen (drop (2 + b.count) words) keys rest → SpellThen (drop (2 + a.count) words) keys rest
same_rest words a b keys rest same = subst (λ (k : Key). SpellThen (drop (2 + k.count) words) keys rest) (sym same)

pub one_list : (words : List ℕ) (a b : List Key) → SpellKeys words a → SpellKeys words b → a ≡ b
one_list words [] [] p q = refl
one_list words [] (k ∷ b) p q = absurd (some_word words k q.0 p)
one_list words (k ∷ a) [] p q = absurd (some_word words k p.0 q)
one_list words (k ∷ a) (j ∷ b) p q =
    let same = one_key words k j p.0 q.0 in
    ap (λ (x : Key). x ∷ a) same ∙ ap (λ (xs : List Key). j ∷ xs) (one_list (drop (2 + k.count) words) a b p.1 (same_rest words k j b [] same q.1))

never_then : (words : List ℕ) (keys before : List Key) (rest : List ℕ) (fault : KeyError) → SpellKeys words keys → SpellThen words before rest → 0 < length rest → Refuses rest fault → ⊥
never_then words [] [] rest fault p q more refused = omega (arith, more, ap (λ (ws : List ℕ). length ws) (sym q ∙ p))
never_then words (k ∷ keys) [] rest fault p q more refused = Spells-refused words k fault p.0 (subst (λ (ws : List ℕ). Refuses ws fault) (sym q) refused)
never_then words [] (j ∷ before) rest fault p q more refused = some_word words j q.0 p
never_then words (k ∷ keys) (j ∷ before) rest fault p q more refused =
    never_then (drop (2 + k.count) words) keys before rest fault p.1 (same_rest words k j before rest (one_key words k j p.0 q.0) q.1) more refused

pub never_both : (words : List ℕ) (keys : List Key) (fault : KeyError) → SpellKeys words keys → AreRefused words fault → ⊥
never_both words keys fault p q = never_then words keys q.before q.rest fault p q.parts q.more q.cause

one_refusal : (words : List ℕ) (a b : KeyError) → Refuses words a → Refuses words b → a ≡ b
one_refusal words Short Short p q = refl
one_refusal words Pointers Pointers p q = refl
one_refusal words Short Pointers p q = absurd (p.0 q)
one_refusal words Pointers Short p q = absurd (q.0 p)
one_refusal words SizeOverOffset b p q = elim p [ ]
one_refusal words Short SizeOverOffset p q = elim q [ ]
one_refusal words Pointers SizeOverOffset p q = elim q [ ]

one_fault_then : (words : List ℕ) (before others : List Key) (rest behind : List ℕ) (a b : KeyError) → SpellThen words before rest → SpellThen words others behind → Refuses rest a → Refuses behind b → a ≡ b
one_fault_then words [] [] rest behind a b p q refused too =
    one_refusal words a b (subst (λ (ws : List ℕ). Refuses ws a) (sym p) refused) (subst (λ (ws : List ℕ). Refuses ws b) (sym q) too)
one_fault_then words (k ∷ before) [] rest behind a b p q refused too = absurd (Spells-refused words k b p.0 (subst (λ (ws : List ℕ). Refuses ws b) (sym q) too))
one_fault_then words [] (j ∷ others) rest behind a b p q refused too = absurd (Spells-refused words j a q.0 (subst (λ (ws : List ℕ). Refuses ws a) (sym p) refused))
one_fault_then words (k ∷ before) (j ∷ others) rest behind a b p q refused too =
    one_fault_then (drop (2 + k.count) words) before others rest behind a b p.1 (same_rest words k j others behind (one_key words k j p.0 q.0) q.1) refused too

pub one_fault : (words : List ℕ) (a b : KeyError) → AreRefused words a → AreRefused words b → a ≡ b
one_fault words a b p q = one_fault_then words p.before q.before p.rest q.rest a b p.parts q.parts p.cause q.cause

-- the keys that were read, and one more
pub SpellThen-more : (words : List ℕ) (keys : List Key) (rest : List ℕ) (key : Key) → SpellThen words keys rest → Spells rest key → SpellThen words (keys ++ key ∷ []) (drop (2 + key.count) rest)
SpellThen-more words [] rest key p spelled = (subst (λ (ws : List ℕ). Spells ws key) (sym p) spelled, ap (drop (2 + key.count)) p)
SpellThen-more words (k ∷ keys) rest key p spelled = (p.0, SpellThen-more (drop (2 + k.count) words) keys rest key p.1 spelled)

pub SpellThen-words_of : (keys : List Key) (rest : List ℕ) → SpellThen (words_of_all keys ++ rest) keys rest
SpellThen-words_of [] rest = refl
SpellThen-words_of (key ∷ keys) rest =
    let behind = words_of_all keys ++ rest in
    let parts : words_of_all (key ∷ keys) ++ rest ≡ words_of key ++ behind = append_assoc (words_of key) (words_of_all keys) rest in
    let gone : drop (2 + key.count) (words_of_all (key ∷ keys) ++ rest) ≡ behind = ap (drop (2 + key.count)) parts ∙ drop_at (words_of key) behind (2 + key.count) (length-words_of key) in
    (subst (λ (ws : List ℕ). Spells ws key) (sym parts) (Spells-words_of key behind), subst (λ (ws : List ℕ). SpellThen ws keys rest) (sym gone) (SpellThen-words_of keys rest))

-- written keys are spelled, with nothing behind them
pub SpellKeys-words_of : (words : List ℕ) (keys : List Key) → words ≡ words_of_all keys → SpellKeys words keys
SpellKeys-words_of words keys is = subst (λ (ws : List ℕ). SpellKeys ws keys) (append-nil (words_of_all keys) ∙ sym is) (SpellThen-words_of keys [])

-- ---- the loops over keys

-- one more key
pub words_of_all_more : (keys : List Key) (i : ℕ) (key : Key) → i < length keys → key ≡ get_or keys i key → words_of_all (take (i + 1) keys) ≡ words_of_all (take i keys) ++ words_of key
words_of_all_more keys i key inside is =
    ap words_of_all (take_more keys i key inside ∙ ap (λ (k : Key). take i keys ++ k ∷ []) (sym is)) ∙ sym (flat_map_more words_of [] (take i keys) key)

-- its words have room where those of all keys have
pub room_for_more : (keys : List Key) (i : ℕ) (key : Key) → i < length keys → key ≡ get_or keys i key → length (words_of_all (take i keys)) + (2 + key.count) ≤ length (words_of_all keys)
room_for_more keys i key inside is =
    let room = length-flat_map-take words_of keys i key inside in
    let same = ap (λ (k : Key). length (words_of k)) is in
    omega (arith, room, same, length-words_of key)

pub keys_written : (count n at : ℕ) (mid new : List ℕ) (keys : List Key) (i : ℕ) (key : Key) → i < length keys → key ≡ get_or keys i key
    → words_at count mid at ≡ words_of_all (take i keys) → words_at n new (at + 8 * count) ≡ words_of key → SameOutside (8 * n) mid new (at + 8 * count)
    → words_at (count + n) new at ≡ words_of_all (take (i + 1) keys)
keys_written count n at mid new keys i key inside is so_far here same =
    words_at-add count n new at
    ∙ ap (λ ws. ws ++ words_at n new (at + 8 * count)) (words_at-kept count (8 * n) mid new at (at + 8 * count) same (inl (omega arith)) ∙ so_far)
    ∙ ap (λ ws. words_of_all (take i keys) ++ ws) here
    ∙ sym (words_of_all_more keys i key inside is)

-- keys take as many words as they are spelled by
pub length-SpellKeys : (words : List ℕ) (keys : List Key) → SpellKeys words keys → length words ≡ length (words_of_all keys)
length-SpellKeys words [] p = ap (λ (ws : List ℕ). length ws) p
length-SpellKeys words (key ∷ keys) p =
    let rest = length-SpellKeys (drop (2 + key.count) words) keys p.1 in
    let dropped = length-drop (2 + key.count) words in
    let long = p.0.long in
    let one = length-words_of key in
    let both = length-append (words_of key) (words_of_all keys) in
    omega arith

-- a key that the test for extents refuses
pub is_over : (answer : Result (Unit {0}) KeyError) (key : Key) → IfErr answer (λ e. (e ≡ SizeOverOffset) × (key.end < key.size)) → is_err answer ≡ true → HasSizeOverEnd key
is_over (Ok u) key why e = absurd cc
is_over (Err fault) key why e = why.1
