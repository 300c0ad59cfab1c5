-- What the example's acts ask for.
use Rattle.std.proofs.Common.{◌≡◌, ◌≢◌, ◌⊎◌, inr, ℕ, suc, ◌<◌, ◌≤◌, Bool, true, false, List, [], ◌∷◌, Option, Some, None, if◌then◌else◌, ◌||◌, refl, ◌∙◌, subst, arith}
use Rattle.bc_model.specs.Sector.{Value, at_run}
use Rattle.bc_model.proofs.Cases.{by_test}
use Rattle.bc_books.specs.Index.{Kind, Dirty, Pointer, within, run_place, pointer_of, first_hit, hit, names}
use Rattle.bc_books.specs.Shelves.{Owner, Spent}
use Rattle.bc_books.specs.Example.{small, key}
use Rattle.bc_books.proofs.Cases.{by_bool}
use Rattle.bc_books.proofs.Small.{in_one, in_two}
use Rattle.bc_data.specs.Seats.{Apart, new_claim, put_seat}
use Rattle.bc_data.specs.Data.{Opening, State, Payload, Act, BackingBarrier, claim_of, start}
use Rattle.bc_data.specs.Enabled.{MayWrite, IsSendable, CanWrite, IsUsing}
use Rattle.bc_data.specs.After.{seat_after, after, course}
use Rattle.bc_data.specs.Example.{pair, by}
use Rattle.bc_data.proofs.Runs.{some_value}

abbrev pub at_place : Kind → ℕ → Pointer
at_place kind place = record { kind = kind; place = place; version = 300 }

pub run_one : (a : ℕ) (x : Value) (s : ℕ) (v : Value) (P : ℕ → Value → Type 0) → P a x → at_run a
    (x ∷ []) s ≡ Some v → P s v
run_one a x s v P h e = by_test a s (λ b. (if b then Some x else None) ≡ Some v → P s v)
    (λ is z. subst (λ n. P n v) is (subst (λ y. P a y) (some_value _ _ z) h))
    (λ ne z. absurd (cc)) e

pub run_two : (a : ℕ) (x y : Value) (s : ℕ) (v : Value) (P : ℕ → Value → Type 0) → P a x → P
    (suc a) y → at_run a (x ∷ y ∷ []) s ≡ Some v → P s v
run_two a x y s v P h g e = by_test a s
    (λ b. (if b then Some x else at_run (suc a) (y ∷ []) s) ≡ Some v → P s v)
    (λ is z. subst (λ n. P n v) is (subst (λ y. P a y) (some_value _ _ z) h))
    (λ ne z. run_one (suc a) y s v P g z) e

some_number : (a b : ℕ) → Some a ≡ Some b → a ≡ b
some_number a b e = cc

pub place_one : (a p s q : ℕ) (P : ℕ → ℕ → Type 0) → P a p → run_place a p 1 s ≡ Some q → P s q
place_one a p s q P h e = by_test a s (λ b. (if b then Some p else None) ≡ Some q → P s q)
    (λ is z. subst (λ n. P n q) is (subst (λ y. P a y) (some_number _ _ z) h))
    (λ ne z. absurd (cc)) e

pub place_two : (a p s q : ℕ) (P : ℕ → ℕ → Type 0) → P a p → P (suc a) (suc p)
    → run_place a p 2 s ≡ Some q → P s q
place_two a p s q P h g e = by_test a s
    (λ b. (if b then Some p else run_place (suc a) (suc p) 1 s) ≡ Some q → P s q)
    (λ is z. subst (λ n. P n q) is (subst (λ y. P a y) (some_number _ _ z) h))
    (λ ne z. place_one (suc a) (suc p) s q P g z) e

some_some : (a b : Option Pointer) → Some a ≡ Some b → a ≡ b
some_some a b e = cc

pub hit_one : (a : ℕ) (kind : Option Kind) (p v s : ℕ) (o : Option Pointer)
    (P : ℕ → Option Pointer → Type 0) → P a (pointer_of kind p v) → hit
    (record { first = a; count = 1; kind = kind; place = p; version = v } ∷ []) s ≡ Some o → P s o
hit_one a kind p v s o P h e = by_test a s
    (λ b. first_hit (record { first = a; count = 1; kind = kind; place = p; version = v })
    (if b then Some p else None) None ≡ Some o → P s o)
    (λ is z. subst (λ n. P n o) is (subst (λ y. P a y) (some_some _ _ z) h)) (λ ne z. absurd (cc)) e

pub hit_two : (a : ℕ) (kind : Option Kind) (p v s : ℕ) (o : Option Pointer)
    (P : ℕ → Option Pointer → Type 0) → P a (pointer_of kind p v) → P (suc a)
    (pointer_of kind (suc p) v) → hit
    (record { first = a; count = 2; kind = kind; place = p; version = v } ∷ []) s ≡ Some o → P s o
hit_two a kind p v s o P h g e = by_test a s
    (λ b. first_hit (record { first = a; count = 2; kind = kind; place = p; version = v })
    (if b then Some p else run_place (suc a) (suc p) 1 s) None ≡ Some o → P s o)
    (λ is z. subst (λ n. P n o) is (subst (λ y. P a y) (some_some _ _ z) h))
    (λ ne z. hit_one (suc a) kind (suc p) v s o P g z) e

pub both_two : (a p : ℕ) (x y : Value) (s : ℕ)
    (P : ℕ → Option (Option Pointer) → Option Value → Type 0) → P a (Some (Some (at_place Dirty p)))
    (Some x)
    → P (suc a) (Some (Some (at_place Dirty (suc p)))) (Some y) → P s None None → P s
    (hit (key a 2 Dirty p ∷ []) s) (at_run a (x ∷ y ∷ []) s)
both_two a p x y s P h g out =
    by_test a s (λ b. P s (first_hit (key a 2 Dirty p)
    (if b then Some p else run_place (suc a) (suc p) 1 s) None)
    (if b then Some x else at_run (suc a) (y ∷ []) s))
    (λ is. subst (λ n. P n (Some (Some (at_place Dirty p))) (Some x)) is h)
    (λ ne. by_test (suc a) s (λ b. P s
    (first_hit (key a 2 Dirty p) (if b then Some (suc p) else None) None)
    (if b then Some y else None))
    (λ is. subst (λ n. P n (Some (Some (at_place Dirty (suc p)))) (Some y)) is g) (λ _. out))

named : (kind : Kind) (p n a t : ℕ) → names (key a n kind p ∷ []) t ≡ true → within p n t ≡ true
named kind p n a t e = by_bool (within p n t) (λ b. (b || false) ≡ true → b ≡ true) (λ _ _. refl)
    (λ _ x. absurd (cc)) e

pub using_one : (owner : ℕ → Owner) (x : Owner) (a p : ℕ) (kind : Kind) → (owner p ≡ x)
    ⊎ (owner p ≡ Spent) → IsUsing owner (key a 1 kind p ∷ []) x
using_one owner x a p kind h t e = in_one p t (λ t. (owner t ≡ x) ⊎ (owner t ≡ Spent)) h
    (named kind p 1 a t e)

pub using_two : (owner : ℕ → Owner) (x : Owner) (a p : ℕ) (kind : Kind) → (owner p ≡ x)
    ⊎ (owner p ≡ Spent) → (owner (suc p) ≡ x) ⊎ (owner (suc p) ≡ Spent)
    → IsUsing owner (key a 2 kind p ∷ []) x
using_two owner x a p kind h g t e = in_two p t (λ t. (owner t ≡ x) ⊎ (owner t ≡ Spent)) h g
    (named kind p 2 a t e)

pub write_one : (st : State) (payload : Payload) (place : ℕ) (x : Value)
    → MayWrite small st.books 1 payload place → IsSendable st.stage payload
    → CanWrite pair st 1 payload place (x ∷ [])
write_one st payload place x may sendable = record {
  places = λ t v e. run_one place x t v
      (λ t v. MayWrite small st.books 1 payload t) may e;
  sendable = sendable;
}

pub other : (w : Opening) (st : State) (i j : ℕ) (act : Act) → j ≢ i
    → (claim_of (after w st i act) j).count ≡ (claim_of st j).count
other w st i j act ne = go act
  where
    skip : (act : Act) → (put_seat st.seats i
        (seat_after w st.books (st.seats i) act) j).claim.count ≡ (claim_of st j).count
    skip act = by_test j i (λ b. (if b then seat_after w st.books
        (st.seats i) act else st.seats j).claim.count ≡ (claim_of st j).count)
        (λ is. absurd (ne is)) (λ _. refl)

    go : (act : Act) → (claim_of (after w st i act) j).count ≡ (claim_of st j).count
    go BackingBarrier = refl
    go act = skip act

others : (j : ℕ) (st : State) (rest : List Act) → j ≢ 1
    → (claim_of (course pair st (by rest)) j).count ≡ (claim_of st j).count
others j st [] ne = refl
others j st (a ∷ rest) ne = others j (after pair st 1 a) rest ne ∙ other pair st 1 j a ne

pub alone : (rest : List Act) (first count : ℕ) (exclusive : Bool) (j : ℕ) → j ≢ 1 → Apart
    (new_claim first count exclusive) (claim_of (course pair (start pair) (by rest)) j)
alone rest first count exclusive j ne = inr
    (λ s p q. let e : (claim_of (course pair (start pair) (by rest)) j).count ≡ 0 = others j
    (start pair) rest ne in let q0 = q.0 in let q1 = q.1 in omega arith)

pub one_sector : (P : ℕ → Type 0) (s : ℕ) → P 2 → (2 ≤ s) × (s < 3) → P s
one_sector P s h q = let q0 = q.0 in let q1 = q.1 in subst P (omega arith) h
