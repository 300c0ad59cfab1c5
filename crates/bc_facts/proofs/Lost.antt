-- Nothing of a record is lost.
use Rattle.std.proofs.Common.{◌≡◌, Bool, List, [], ◌∷◌, length, refl, sym, ap, ◌∙◌}
use Rattle.std.specs.Prelude.{reverse}
use Rattle.std.proofs.lemmas.List.{reverse-reverse}
use Rattle.bc_disk.specs.declared.geometry.Geometry.{Geometry}
use Rattle.bc_key.specs.declared.key.Key.{Key}
use Rattle.bc_keys.specs.Spelling.{words_of_all}
use Rattle.bc_keys.proofs.KeyLists.{SpellKeys-words_of, one_list}
use Rattle.bc_jset.specs.declared.entry.JEntry.{JEntry}
use Rattle.bc_set.specs.declared.set.Set.{Set}
use Rattle.bc_meta.specs.Entries.{Entry}
use Rattle.bc_meta.specs.Tree.{NodeSet}
use Rattle.bc_facts.specs.Seen.{seen_entry, seen_set}

same_words : (xs ys : List Key) → words_of_all xs ≡ words_of_all ys → xs ≡ ys
same_words xs ys same = one_list (words_of_all xs) xs ys (SpellKeys-words_of (words_of_all xs) xs refl) (SpellKeys-words_of (words_of_all xs) ys same)

head_same : {A : Type 0} (x y : A) (xs ys : List A) → x ∷ xs ≡ y ∷ ys → x ≡ y
head_same x y xs ys e = cc

tail_same : {A : Type 0} (x y : A) (xs ys : List A) → x ∷ xs ≡ y ∷ ys → xs ≡ ys
tail_same x y xs ys e = cc

entry_of : (a b : JEntry) → a.seq ≡ b.seq → a.last_seq ≡ b.last_seq → a.uuid_bucket ≡ b.uuid_bucket → a.root ≡ b.root → a.level ≡ b.level → a.prio ≡ b.prio → a.keys ≡ b.keys → a ≡ b
entry_of a b seq last uuid root level prio keys =
    ap (λ n. record { seq = n; last_seq = a.last_seq; uuid_bucket = a.uuid_bucket; root = a.root; level = a.level; prio = a.prio; keys = a.keys }) seq
    ∙ ap (λ n. record { seq = b.seq; last_seq = n; uuid_bucket = a.uuid_bucket; root = a.root; level = a.level; prio = a.prio; keys = a.keys }) last
    ∙ ap (λ (k : Key). record { seq = b.seq; last_seq = b.last_seq; uuid_bucket = k; root = a.root; level = a.level; prio = a.prio; keys = a.keys }) uuid
    ∙ ap (λ (k : Key). record { seq = b.seq; last_seq = b.last_seq; uuid_bucket = b.uuid_bucket; root = k; level = a.level; prio = a.prio; keys = a.keys }) root
    ∙ ap (λ n. record { seq = b.seq; last_seq = b.last_seq; uuid_bucket = b.uuid_bucket; root = b.root; level = n; prio = a.prio; keys = a.keys }) level
    ∙ ap (λ n. record { seq = b.seq; last_seq = b.last_seq; uuid_bucket = b.uuid_bucket; root = b.root; level = b.level; prio = n; keys = a.keys }) prio
    ∙ ap (λ (ks : List Key). record { seq = b.seq; last_seq = b.last_seq; uuid_bucket = b.uuid_bucket; root = b.root; level = b.level; prio = b.prio; keys = ks }) keys

pub one_entry : (g : Geometry) (a b : JEntry) → seen_entry g a ≡ seen_entry g b → a ≡ b
one_entry g a b same =
    let rest = ap (λ (e : Entry). e.rest) same in
    let more = tail_same (length (words_of_all a.keys)) (length (words_of_all b.keys)) (a.prio ∷ words_of_all (a.uuid_bucket ∷ a.root ∷ [])) (b.prio ∷ words_of_all (b.uuid_bucket ∷ b.root ∷ [])) rest in
    let words = tail_same a.prio b.prio (words_of_all (a.uuid_bucket ∷ a.root ∷ [])) (words_of_all (b.uuid_bucket ∷ b.root ∷ [])) more in
    let keys = same_words (a.uuid_bucket ∷ a.root ∷ []) (b.uuid_bucket ∷ b.root ∷ []) words in
    entry_of a b (ap (λ (e : Entry). e.number) same) (ap (λ (e : Entry). e.last_seq) same)
    (head_same a.uuid_bucket b.uuid_bucket (a.root ∷ []) (b.root ∷ []) keys)
    (head_same a.root b.root [] [] (tail_same a.uuid_bucket b.uuid_bucket (a.root ∷ []) (b.root ∷ []) keys))
    (ap (λ (e : Entry). e.level) same)
    (head_same a.prio b.prio (words_of_all (a.uuid_bucket ∷ a.root ∷ [])) (words_of_all (b.uuid_bucket ∷ b.root ∷ [])) more)
    (sym (reverse-reverse a.keys) ∙ ap (λ (e : Entry). reverse e.keys) same ∙ reverse-reverse b.keys)

pub one_set : (g : Geometry) (leaf : Bool) (a b : Set) → seen_set g leaf a ≡ seen_set g leaf b → a ≡ b
one_set g leaf a b same =
    let rest = ap (λ (s : NodeSet). s.rest) same in
    let more = tail_same (length (words_of_all a.keys)) (length (words_of_all b.keys)) (a.version ∷ words_of_all a.keys) (b.version ∷ words_of_all b.keys) rest in
    ap (λ n. record { seq = n; version = a.version; keys = a.keys }) (ap (λ (s : NodeSet). s.seq) same)
    ∙ ap (λ n. record { seq = b.seq; version = n; keys = a.keys }) (head_same a.version b.version (words_of_all a.keys) (words_of_all b.keys) more)
    ∙ ap (λ (ks : List Key). record { seq = b.seq; version = b.version; keys = ks }) (same_words a.keys b.keys (tail_same a.version b.version (words_of_all a.keys) (words_of_all b.keys) more))
