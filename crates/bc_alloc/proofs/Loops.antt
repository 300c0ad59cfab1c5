-- What stands in the middle of loops over buckets.
use Rattle.std.proofs.Common.{◌≡◌, ℕ, ◌+◌, ◌<◌, ◌≤◌, List, [], ◌∷◌, length, get_or, take, drop, refl, sym, ap, ◌∙◌, arith}
use Rattle.std.proofs.lemmas.List.{drop_more, take-append-drop, take_more}
use Rattle.std.proofs.lemmas.List.Sums.{fold_more}
use Rattle.bc_bucket.specs.declared.bucket.Bucket.{Bucket}
use Rattle.bc_bucket.specs.Buckets.{Buckets, changed}
use Rattle.bc_alloc.specs.Reserve.{Reserve, IsDistinct, times}
use Rattle.bc_alloc.specs.Reserves.{Reserves, returned, returned_all, stored, stored_all, times_listed}
use Rattle.bc_alloc.specs.Buckets.{AreFor, AreLoose, all_changed, made_ready, unmarked}
use Rattle.bc_alloc.proofs.Fits.{held_of, held_stays, same_length, still_for, still_for_more}
use Rattle.bc_alloc.proofs.Times.{times-append, times_same}

pub times_more : (ks : List ℕ) (i j : ℕ) → i < length ks → times j (take (i + 1) ks) ≡ times j (take i ks) + times j (get_or ks i 0 ∷ [])
times_more ks i j within = ap (λ (xs : List ℕ). times j xs) (take_more ks i 0 within) ∙ times-append j (take i ks) (get_or ks i 0 ∷ [])

pub all_changed_more : (f : Bucket → Bucket) (ks : List ℕ) (i : ℕ) (b : Buckets) → i < length ks → all_changed f (take (i + 1) ks) b ≡ changed f (get_or ks i 0) (all_changed f (take i ks) b)
all_changed_more f ks i b within = fold_more (λ (d : Buckets) k. changed f k d) b ks i 0 within

pub stored_more : (ks : List ℕ) (i : ℕ) (ls : List Reserve) → i < length ks → stored_all (take (i + 1) ks) ls ≡ stored (get_or ks i 0) (stored_all (take i ks) ls)
stored_more ks i ls within = fold_more (λ (xs : List Reserve) k. stored k xs) ls ks i 0 within

pub returned_more : (ks : List ℕ) (i : ℕ) (ls : List Reserve) → i < length ks → returned_all (take (i + 1) ks) ls ≡ returned (get_or ks i 0) (returned_all (take i ks) ls)
returned_more ks i ls within = fold_more (λ (xs : List Reserve) k. returned k xs) ls ks i 0 within

-- a number that stands at a place is there, and no second time before
pub there : (ks : List ℕ) (i : ℕ) → i < length ks → 0 < times (get_or ks i 0) ks
there ks i within =
    let one = times_same (get_or ks i 0) in
    let more = times_more ks i (get_or ks i 0) within in
    let all = times-append (get_or ks i 0) (take (i + 1) ks) (drop (i + 1) ks) in
    let whole = ap (λ (xs : List ℕ). times (get_or ks i 0) xs) (take-append-drop (i + 1) ks) in
    omega arith

pub not_before : (ks : List ℕ) (i : ℕ) → IsDistinct ks → i < length ks → times (get_or ks i 0) (take i ks) ≡ 0
not_before ks i distinct within =
    let one = times_same (get_or ks i 0) in
    let more = times_more ks i (get_or ks i 0) within in
    let all = times-append (get_or ks i 0) (take (i + 1) ks) (drop (i + 1) ks) in
    let whole = ap (λ (xs : List ℕ). times (get_or ks i 0) xs) (take-append-drop (i + 1) ks) in
    let once = distinct (get_or ks i 0) in
    omega arith

-- the first i of `old` are back on the list priorities
pub record GivenBack (r0 : Reserves) (b0 : Buckets) (old : List ℕ) (i : ℕ) (r : Reserves) (b : Buckets) : Type 0 where
  pub lists : r ≡ record r0 { lists = returned_all (take i old) r0.lists }
  pub buckets : b ≡ all_changed unmarked (take i old) b0
  pub fit : AreFor r b
  pub listed : (j : ℕ) → times_listed r j ≤ times_listed r0 j + times j (take i old)
  pub held : (j : ℕ) → held_of b j ≡ held_of b0 j

pub given_back_none : (r : Reserves) (b : Buckets) (old : List ℕ) → AreFor r b → GivenBack r b old 0 r b
given_back_none r b old h = record { lists = refl; buckets = refl; fit = h; listed = λ j. omega arith; held = λ j. refl }

pub given_back_more : (r0 : Reserves) (b0 : Buckets) (old : List ℕ) (i : ℕ) (r : Reserves) (b : Buckets) (s : Reserves) → AreLoose r0 b0 old → i < length old → GivenBack r0 b0 old i r b → s ≡ record r { lists = returned (get_or old i 0) r.lists } → ((j : ℕ) → times_listed s j ≤ times_listed r j + times j (get_or old i 0 ∷ [])) → GivenBack r0 b0 old (i + 1) s (changed unmarked (get_or old i 0) b)
given_back_more r0 b0 old i r b s loose within h e more =
    record {
      lists = e ∙ ap (λ (x : Reserves). record x { lists = returned (get_or old i 0) x.lists }) h.lists ∙ ap (λ (ls : List Reserve). record r0 { lists = ls }) (sym (returned_more old i r0.lists within));
      buckets = ap (λ (d : Buckets). changed unmarked (get_or old i 0) d) h.buckets ∙ sym (all_changed_more unmarked old i b0 within);
      fit = still_for_more r s b (changed unmarked (get_or old i 0) b) (get_or old i 0) h.fit (ap (λ (x : Reserves). x.count) e) (same_length unmarked (get_or old i 0) b) more (held_stays unmarked (λ x. refl) (get_or old i 0) b) (h.held (get_or old i 0) ∙ (loose (get_or old i 0) (there old i within)).2);
      listed = λ j. let m = more j in let l = h.listed j in let t = times_more old i j within in omega arith;
      held = λ j. held_stays unmarked (λ x. refl) (get_or old i 0) b j ∙ h.held j;
    }

-- the first i raised ones are on the lists
pub record Stored (r0 : Reserves) (b0 : Buckets) (i : ℕ) (r : Reserves) (b : Buckets) : Type 0 where
  pub lists : r ≡ record r0 { lists = stored_all (take i r0.raised) r0.lists; raised = drop i r0.raised }
  pub buckets : b ≡ all_changed made_ready (take i r0.raised) b0
  pub fit : AreFor r b

pub stored_none : (r : Reserves) (b : Buckets) → AreFor r b → Stored r b 0 r b
stored_none r b h = record { lists = refl; buckets = refl; fit = h }

pub stored_one_more : (r0 : Reserves) (b0 : Buckets) (i k : ℕ) (r : Reserves) (b : Buckets) (q s : Reserves) → i < length r0.raised → Stored r0 b0 i r b
    → r.raised ≡ k ∷ q.raised → q ≡ record r { raised = q.raised } → ((j : ℕ) → times_listed q j + times j (k ∷ []) ≡ times_listed r j)
    → s ≡ record q { lists = stored k q.lists } → ((j : ℕ) → times_listed s j ≤ times_listed q j + times j (k ∷ [])) → Stored r0 b0 (i + 1) s (changed made_ready k b)
stored_one_more r0 b0 i k r b q s within h first popped less e more =
    let split : r.raised ≡ get_or r0.raised i 0 ∷ drop (i + 1) r0.raised = ap (λ (x : Reserves). x.raised) h.lists ∙ drop_more r0.raised i 0 within in
    let whole : k ∷ q.raised ≡ get_or r0.raised i 0 ∷ drop (i + 1) r0.raised = sym first ∙ split in
    let own : k ≡ get_or r0.raised i 0 = cc in
    let rest : q.raised ≡ drop (i + 1) r0.raised = cc in
    let lists : q.lists ≡ stored_all (take i r0.raised) r0.lists = ap (λ (x : Reserves). x.lists) popped ∙ ap (λ (x : Reserves). x.lists) h.lists in
    record {
      lists = e ∙ ap (λ (x : Reserves). record x { lists = stored k q.lists }) popped ∙ ap (λ (x : Reserves). record x { lists = stored k q.lists; raised = q.raised }) h.lists
          ∙ ap (λ (ls : List Reserve). record r0 { lists = ls; raised = q.raised }) (ap (λ (ls : List Reserve). stored k ls) lists ∙ ap (λ n. stored n (stored_all (take i r0.raised) r0.lists)) own ∙ sym (stored_more r0.raised i r0.lists within))
          ∙ ap (λ (ks : List ℕ). record r0 { lists = stored_all (take (i + 1) r0.raised) r0.lists; raised = ks }) rest;
      buckets = ap (λ (d : Buckets). changed made_ready k d) h.buckets ∙ ap (λ n. changed made_ready n (all_changed made_ready (take i r0.raised) b0)) own ∙ sym (all_changed_more made_ready r0.raised i b0 within);
      fit = still_for r s b (changed made_ready k b) h.fit (ap (λ (x : Reserves). x.count) e ∙ ap (λ (x : Reserves). x.count) popped) (same_length made_ready k b) (λ j some. (let l = less j in let m = more j in omega arith, held_stays made_ready (λ x. refl) k b j));
    }

-- the first i spare ones are on the lists
pub record Filled (r0 : Reserves) (spare : List ℕ) (i : ℕ) (r : Reserves) : Type 0 where
  pub lists : r ≡ record r0 { lists = stored_all (take i spare) r0.lists }
  pub listed : (j : ℕ) → times_listed r j ≤ times_listed r0 j + times j (take i spare)

pub filled_more : (r0 : Reserves) (spare : List ℕ) (i : ℕ) (r s : Reserves) → i < length spare → Filled r0 spare i r → s ≡ record r { lists = stored (get_or spare i 0) r.lists } → ((j : ℕ) → times_listed s j ≤ times_listed r j + times j (get_or spare i 0 ∷ [])) → Filled r0 spare (i + 1) s
filled_more r0 spare i r s within h e more =
    record {
      lists = e ∙ ap (λ (x : Reserves). record x { lists = stored (get_or spare i 0) x.lists }) h.lists ∙ ap (λ (ls : List Reserve). record r0 { lists = ls }) (sym (stored_more spare i r0.lists within));
      listed = λ j. let m = more j in let l = h.listed j in let t = times_more spare i j within in omega arith;
    }
