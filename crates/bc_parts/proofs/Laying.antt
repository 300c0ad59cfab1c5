-- Parts on their way from a vector into slots, and back.
use Rattle.std.proofs.Common.{◌≡◌, ℕ, ◌+◌, ◌≤◌, List, [], ◌∷◌, ◌++◌, map, length, Option, Some, refl, sym, ap, ◌∙◌, append_assoc, arith}
use Rattle.std.specs.Prelude.{reverse, Vec}
use Rattle.std.specs.declared.alloc.Global.{Global}
use Rattle.std.proofs.lemmas.List.{append-nil, length-append, length-map, map-append, reverse-append, reverse-reverse}
use Rattle.bc_parts.specs.declared.table.Cargo.{Cargo}
use Rattle.bc_parts.specs.declared.table.Cargo.TheVariants.{Part, Book, Vector}
use Rattle.bc_parts.specs.Rule.{laid}

abbrev pub slot_of : {P B : Type 0} → P → Option (Cargo P B)
slot_of p = Some (Part p)

abbrev pub parts_in : {P B : Type 0} → List (Option (Cargo P B)) → List P
parts_in (Some (Part p) ∷ slots) = p ∷ parts_in slots
parts_in _ = []

abbrev pub books_in : {P B : Type 0} → List (Option (Cargo P B)) → List B
books_in [] = []
books_in (Some (Book b) ∷ slots) = b ∷ []
books_in (_ ∷ slots) = books_in slots

-- some of all parts lie in slots, and the others, last first, in the vector
pub record IsLaying {P B : Type 0} (all vector : List P) (slots : List (Option (Cargo P B))) : Type 0 where
  pub done : List P
  pub slots_are : slots ≡ map slot_of done
  pub all_are : all ≡ done ++ reverse vector

pub none_left : {A : Type 0} (xs : List A) → length xs ≡ 0 → xs ≡ []
none_left [] none = refl
none_left (x ∷ xs) none = absurd (omega arith)

module _ {P B : Type 0} where
  pub IsLaying-first : (all vector : List P) (slots : List (Option (Cargo P B))) → vector ≡ reverse all → slots ≡ [] → IsLaying all vector slots
  IsLaying-first all vector slots reversed none = record { done = []; slots_are = none; all_are = sym (ap reverse reversed ∙ reverse-reverse all) }

  pub IsLaying-next : (all vector rest : List P) (slots more : List (Option (Cargo P B))) (p : P) → IsLaying all vector slots → vector ≡ rest ++ p ∷ [] → more ≡ slots ++ slot_of p ∷ [] → IsLaying all rest more
  IsLaying-next all vector rest slots more p so_far popped pushed = record {
    done = so_far.done ++ p ∷ [];
    slots_are = pushed ∙ (ap (λ l. l ++ slot_of p ∷ []) so_far.slots_are ∙ sym (map-append slot_of so_far.done (p ∷ [])));
    all_are = so_far.all_are ∙ (ap (λ l. so_far.done ++ reverse l) popped ∙ (ap (λ l. so_far.done ++ l) (reverse-append rest (p ∷ [])) ∙ sym (append_assoc so_far.done (p ∷ []) (reverse rest))));
  }

  pub IsLaying-last : (all vector : List P) (slots : List (Option (Cargo P B))) → IsLaying all vector slots → vector ≡ [] → slots ≡ map slot_of all
  IsLaying-last all vector slots so_far none = so_far.slots_are ∙ ap (map slot_of) (sym (so_far.all_are ∙ (ap (λ l. so_far.done ++ reverse l) none ∙ append-nil so_far.done)))

  -- behind the parts come the Book and the vector
  pub laid-pushes : (all : List P) (b : B) (v : Vec P Global) (parts book slots : List (Option (Cargo P B))) → parts ≡ map slot_of all → book ≡ parts ++ Some (Book b) ∷ [] → slots ≡ book ++ Some (Vector v) ∷ [] → slots ≡ laid all b v
  laid-pushes all b v parts book slots one two three = three ∙ (ap (λ l. l ++ Some (Vector v) ∷ []) (two ∙ ap (λ l. l ++ Some (Book b) ∷ []) one) ∙ append_assoc (map slot_of all) (Some (Book b) ∷ []) (Some (Vector v) ∷ []))

-- the slots that are left, and the vector, last first, make all slots
pub record IsUnlaying {P B : Type 0} (all : List (Option (Cargo P B))) (b : B) (slots : List (Option (Cargo P B))) (vector : List P) (room : ℕ) : Type 0 where
  pub left : List P
  pub last : Vec P Global
  pub slots_are : slots ≡ map slot_of left
  pub all_are : all ≡ laid (left ++ reverse vector) b last
  pub fits : length left + length vector ≤ room

pub same_book_slot : {P B : Type 0} (b c : B) → ◌≡◌ {A = Option (Cargo P B)} (Some (Book b)) (Some (Book c)) → b ≡ c
same_book_slot b c is = cc

pub same_part_slot : {P B : Type 0} (p q : P) → ◌≡◌ {A = Option (Cargo P B)} (Some (Part p)) (Some (Part q)) → p ≡ q
same_part_slot p q is = cc

pub same_vector_slot : {P B : Type 0} (v w : Vec P Global) → ◌≡◌ {A = Option (Cargo P B)} (Some (Vector v)) (Some (Vector w)) → v ≡ w
same_vector_slot v w is = cc

-- lists with one more at the end are equal only where the lists and the last ones are
pub push-injective : {A : Type 0} (xs ys : List A) (x y : A) → xs ++ x ∷ [] ≡ ys ++ y ∷ [] → (xs ≡ ys) × (x ≡ y)
push-injective [] [] x y is = (refl, cc)
push-injective [] (b ∷ bs) x y is = let longer = ap length is in absurd (omega (arith, longer, length-append bs (y ∷ [])))
push-injective (a ∷ as') [] x y is = let longer = ap length is in absurd (omega (arith, longer, length-append as' (x ∷ [])))
push-injective (a ∷ as') (b ∷ bs) x y is = let head : a ≡ b = cc in let tail : as' ++ x ∷ [] ≡ bs ++ y ∷ [] = cc in let t = push-injective as' bs x y tail in ((λ i. head i ∷ t.0 i), t.1)

-- what is popped from slots of parts is a part
pub map-pop : {P B : Type 0} (ps : List P) (rest : List (Option (Cargo P B))) (slot : Option (Cargo P B)) → map slot_of ps ≡ rest ++ slot ∷ []
    → (left : List P) × (p : P) × (ps ≡ left ++ p ∷ []) × (rest ≡ map slot_of left) × (slot ≡ Some (Part p))
map-pop [] rest slot is = let longer = ap length is in absurd (omega (arith, longer, length-append rest (slot ∷ [])))
map-pop (q ∷ []) [] slot is = ([], q, refl, refl, cc)
map-pop (q ∷ []) (r ∷ rs) slot is = let longer = ap length is in absurd (omega (arith, longer, length-append rs (slot ∷ [])))
map-pop (q ∷ r ∷ ps) [] slot is = absurd (let longer = ap length is in omega (arith, longer))
map-pop {P} {B} (q ∷ r ∷ ps) (x ∷ rest) slot is =
    let head : slot_of {P = P} {B = B} q ≡ x = cc in
    let tail : map (slot_of {P = P} {B = B}) (r ∷ ps) ≡ rest ++ slot ∷ [] = cc in
    let t = map-pop (r ∷ ps) rest slot tail in (q ∷ t.0, t.1, ap (λ l. q ∷ l) t.2, (λ i. sym head i ∷ t.3 i), t.4)

module _ {P B : Type 0} where
  -- the vector is popped first
  pub laid-pop : (all rest : List (Option (Cargo P B))) (slot : Option (Cargo P B)) (ps : List P) (b : B) (v : Vec P Global) → all ≡ laid ps b v → all ≡ rest ++ slot ∷ []
      → (rest ≡ map slot_of ps ++ Some (Book b) ∷ []) × (slot ≡ Some (Vector v))
  laid-pop all rest slot ps b v is popped = push-injective rest (map slot_of ps ++ Some (Book b) ∷ []) slot (Some (Vector v)) (sym popped ∙ (is ∙ sym (append_assoc (map slot_of ps) (Some (Book b) ∷ []) (Some (Vector v) ∷ []))))

  pub IsUnlaying-first : (all slots : List (Option (Cargo P B))) (ps : List P) (b c : B) (v : Vec P Global) (vector : List P) (room : ℕ) → all ≡ laid ps b v → slots ≡ map slot_of ps → b ≡ c → vector ≡ [] → length ps ≤ room → IsUnlaying all c slots vector room
  IsUnlaying-first all slots ps b c v vector room is parts book none fits = record {
    left = ps;
    last = v;
    slots_are = parts;
    all_are = is ∙ ((λ i. laid ps (book i) v) ∙ ap (λ l. laid l c v) (sym (ap (λ l. ps ++ reverse l) none ∙ append-nil ps)));
    fits = (let empty = ap length none in omega (arith, empty, fits));
  }

  pub IsUnlaying-next : (all slots rest : List (Option (Cargo P B))) (b : B) (vector more : List P) (p : P) (room : ℕ) → IsUnlaying all b slots vector room → slots ≡ rest ++ slot_of p ∷ [] → more ≡ vector ++ p ∷ [] → IsUnlaying all b rest more room
  IsUnlaying-next all slots rest b vector more p room so_far popped pushed =
      let t = map-pop so_far.left rest (slot_of p) (sym so_far.slots_are ∙ popped) in
      let same : t.1 ≡ p = let e : ◌≡◌ {A = Option (Cargo P B)} (Some (Part p)) (Some (Part t.1)) = t.4 in cc in record {
        left = t.0;
        last = so_far.last;
        slots_are = t.3;
        all_are = so_far.all_are ∙ ap (λ l. laid l b so_far.last)
            (ap (λ l. l ++ reverse vector) (t.2 ∙ ap (λ q. t.0 ++ q ∷ []) same) ∙ (append_assoc t.0 (p ∷ []) (reverse vector) ∙ ap (λ l. t.0 ++ l) (sym (ap reverse pushed ∙ reverse-append vector (p ∷ [])))));
        fits = (let before = ap length t.2 in let after = ap length pushed in let f = so_far.fits in omega (arith, before, after, f, length-append t.0 (t.1 ∷ []), length-append vector (p ∷ [])));
      }

  pub IsUnlaying-last : (all slots : List (Option (Cargo P B))) (b : B) (vector parts : List P) (room : ℕ) → IsUnlaying all b slots vector room → slots ≡ [] → parts ≡ reverse vector → (v : Vec P Global) × (all ≡ laid parts b v)
  IsUnlaying-last all slots b vector parts room so_far none reversed =
      let nothing : so_far.left ≡ [] = none_left so_far.left (let l = ap length (sym so_far.slots_are ∙ none) in omega (arith, l, length-map so_far.left (slot_of {P = P} {B = B}))) in
      (so_far.last, so_far.all_are ∙ ap (λ l. laid l b so_far.last) (ap (λ l. l ++ reverse vector) nothing ∙ sym reversed))
