-- Which slots an event changes.
use Rattle.std.proofs.Common.{◌≡◌, ◌⊎◌, inl, inr, ℕ, List, [], ◌∷◌, refl, ap, if◌then◌else◌}
use Rattle.bc_key.specs.declared.key.Key.{Key}
use Rattle.bc_meta.specs.Facts.{In}
use Rattle.bc_meta.proofs.Lists.{by_test}
use Rattle.bc_leaves.specs.Frame.{AllWithin, LawFrame, LawInserts}
use Rattle.bc_leaves.specs.Events.{Barrier, BeginBucket, BeginChange, Elsewhere, FailElsewhere, FailEntry, FailFill, FailParent, FailSet, Fill, ForgetDrafts, Insert, Install, MakeDurable, NewInner, NewLeaf, Reuse, Seal, SealRoot, SetParent, WriteEntry, WriteSet}
use Rattle.bc_leaves.specs.Parts.{Coming, Draft, Free, Leaf, Leaving, NoNode, Role, State, next_number}
use Rattle.bc_leaves.specs.After.{after, changed, forgotten, has, installed, with_role}
use Rattle.bc_leaves.proofs.Contents.{at, by_bool}
use Rattle.bc_leaves.proofs.Chains.{in_has, put_else}

same_role : (x : Leaf) (r : Role) → r ≡ x.role → with_role r x ≡ x
same_role x r e = ap (λ (t : Role). with_role t x) e

forgets : (r : Role) → (r ≡ Draft → ⊥) → forgotten r ≡ r
forgets NoNode n = refl
forgets Draft n = absurd (n refl)
forgets Free n = refl
forgets Leaving n = refl
forgets Coming n = refl

changes : (gone come : List ℕ) (k : ℕ) (r : Role) → (In k gone ⊎ In k come → ⊥) → changed gone come k r ≡ r
changes gone come k r n =
    by_bool (has gone k) (λ g. (if g then Leaving else (if has come k then Coming else r)) ≡ r) (λ e. absurd (n (inl (in_has gone k e))))
    (λ _. by_bool (has come k) (λ g. (if g then Coming else r) ≡ r) (λ e. absurd (n (inr (in_has come k e)))) (λ _. refl))

pub law_frame : LawFrame
law_frame st (Insert i key) k n = by_test k i (λ t. record (st.leaves k) { pending = if t then record { number = next_number st.records; key = key } ∷ (st.leaves k).pending else (st.leaves k).pending } ≡ st.leaves k) (λ e. absurd (n e)) (λ _. refl)
law_frame st (BeginBucket b) k n = refl
law_frame st (Seal needed prio rest) k n = refl
law_frame st (WriteEntry values) k n = refl
law_frame st (FailEntry values) k n = refl
law_frame st (Reuse q) k n = refl
law_frame st (Fill q at values) k n = refl
law_frame st (FailFill q at values set) k n = refl
law_frame st (Elsewhere at values) k n = refl
law_frame st (FailElsewhere at values) k n = refl
law_frame st (FailSet i set values) k n = refl
law_frame st (FailParent q set values) k n = refl
law_frame st Barrier k n = refl
law_frame st MakeDurable k n = refl
law_frame st (WriteSet i set values) k n = by_test k i (λ t. record (st.leaves k) { pending = if t then [] else (st.leaves k).pending } ≡ st.leaves k) (λ e. absurd (n e)) (λ _. refl)
law_frame st (NewLeaf j leaf set values) k n = put_else st.leaves j leaf k n
law_frame st (NewInner j inner set values) k n = refl
law_frame st ForgetDrafts k n = same_role (st.leaves k) _ (forgets (st.leaves k).role n)
law_frame st (BeginChange low high gone come old new unused) k n = same_role (st.leaves k) _ (changes gone come k (st.leaves k).role n)
law_frame st (SetParent q set values) k n = refl
law_frame st (SealRoot needed prio rest r) k n = refl
law_frame st (Install unused) k n = same_role (st.leaves k) _ (go (st.leaves k).role n)
  where
    go : (r : Role) → ((r ≡ Leaving) ⊎ (r ≡ Coming) → ⊥) → installed r ≡ r
    go NoNode n = refl
    go Draft n = refl
    go Free n = refl
    go Leaving n = absurd (n (inl refl))
    go Coming n = absurd (n (inr refl))

within_after : (st : State) (i : ℕ) (key : Key) (ks : List Key) → AllWithin st i ks → AllWithin (after st (Insert i key)) i ks
within_after st i key [] h = tt
within_after st i key (k ∷ ks) h = (h.0, within_after st i key ks h.1)

pub law_inserts : LawInserts
law_inserts st i [] free all = tt
law_inserts st i (k ∷ ks) free all = ((free, all.0), law_inserts (after st (Insert i k)) i ks free (within_after st i k ks all.1))
