-- What a step of the loop finds, and where it came no further.
use Rattle.std.proofs.Common.{◌≡◌, ℕ, zero, suc, ◌+◌, ◌<◌, List, [], ◌∷◌, ◌++◌, drop, length, take, Option, Some, refl, sym, ap, ◌∙◌, subst, arith}
use Rattle.std.proofs.lemmas.List.{length-take-le, take-append-drop}
use Rattle.std.proofs.lemmas.List.Elements.{All-cons, All-head, All-nil, All-tail}
use Rattle.std.specs.Prelude.{All, slice_get, slice_index_or}
use Rattle.bc_disk.specs.Disk.{DiskFacts}
use Rattle.bc_new_node.specs.Wrote.{HasFailedToWriteNew}
use Rattle.bc_new_node.specs.bc_hand.Seats.{View}
use Rattle.bc_new_node.specs.bc_hand.declared.error.StepError.{StepError}
use Rattle.bc_new_node.specs.bc_hand.declared.error.StepError.TheVariants as error
use Rattle.bc_new_node.specs.bc_hand.declared.hand.Hand.{Hand}
use Rattle.bc_new_node.specs.bc_held.declared.held.HeldBucket.{HeldBucket}
use Rattle.bc_new_node.specs.bc_machine.declared.part.SpinePart.{SpinePart}
use Rattle.bc_new_nodes.proofs.Lists.{drop_next}
use Rattle.bc_new_nodes.specs.Course.{HaveStoppedAt, counted}
use Rattle.bc_planned.specs.Nodes.{slot_of}
use Rattle.bc_new_nodes.specs.Wrote.{HaveWritten, IsCutBy}
use Rattle.bc_plan.specs.declared.write.NewNode.{NewNode}
use Rattle.bc_tree.specs.declared.plan.Plan.{Plan}

-- ---- lists

pub at_default : {X : Type 0} (xs : List X) (i : ℕ) (d : X) → i < length xs
    → slice_get xs i ≡ Some (slice_index_or xs i d)
at_default [] i d less = absurd (omega (arith, less))
at_default (x ∷ xs) zero d less = refl
at_default (x ∷ xs) (suc i) d less = at_default xs i d (omega (arith, less))

pub at_place : {X : Type 0} (xs : List X) (i : ℕ) (x : X) → i < length xs
    → x ≡ slice_index_or xs i x → slice_get xs i ≡ Some x
at_place xs i x less is = at_default xs i x less ∙ ap Some (sym is)

pub last_of : {X : Type 0} (P : X → Type 0) (xs : List X) (x : X) → All P (xs ++ x ∷ []) → P x
last_of P [] x all = All-head P x [] all
last_of P (y ∷ ys) x all = last_of P ys x (All-tail P y (ys ++ x ∷ []) all)

pub front_of : {X : Type 0} (P : X → Type 0) (xs ys : List X) → All P (xs ++ ys) → All P xs
front_of P [] ys all = All-nil P
front_of P (x ∷ xs) ys all = All-cons P x xs (All-head P x (xs ++ ys) all)
    (front_of P xs ys (All-tail P x (xs ++ ys) all))

pub same_part : (o : Option SpinePart) (a b : SpinePart) → o ≡ Some a → o ≡ Some b → a ≡ b
same_part o a b is other = cc

-- ---- where it stopped

module _ {C B : Type 0} (cache_facts : C → DiskFacts) (backing_facts : B → DiskFacts)
    (before : ℕ) (spine : SpinePart) (nodes : List NewNode) (bs : List HeldBucket) (done : ℕ)
    (p q r : Plan) (old mid new : Hand C B) (u v w : View cache_facts backing_facts)
    (n : NewNode) (b : HeldBucket) (its_node : slice_get nodes done ≡ Some n)
    (its_bucket : slice_get bs done ≡ Some b) (less : done < length bs)
    (wrote : HaveWritten cache_facts backing_facts before spine.spine.geometry (take done nodes)
    (take done bs) p q u v)
    (hand : counted old spine done mid) (kept : r ≡ q) where
  abbrev at : SpinePart
  at = record spine { next_seq = spine.next_seq + done }

  many : length (take done bs) ≡ done
  many = length-take-le done bs (omega (arith, less))

  -- with its number used, or not
  hand_used : new ≡ record mid {
    spine = Some (record at { next_seq = spine.next_seq + done + 1 });
    cache = new.cache;
  } → counted old spine (done + 1) new
  hand_used is = is
      ∙ ap (λ (h : Hand C B). record h {
        spine = Some (record at { next_seq = spine.next_seq + done + 1 });
        cache = new.cache;
      }) hand
      ∙ ap (λ k. record old { spine = Some (record spine { next_seq = k }); cache = new.cache })
      (let e : spine.next_seq + done + 1 ≡ spine.next_seq + (done + 1) = omega arith in e)

  hand_left : new ≡ mid → counted old spine done new
  hand_left is = subst (λ h. counted old spine done h) (sym is) hand

  cut : (e : StepError) (used : ℕ)
      → IsCutBy cache_facts backing_facts e before spine.spine.geometry (n ∷ drop (done + 1) nodes)
      (b ∷ drop (done + 1) bs) done used q v w → counted old spine used new
      → HaveStoppedAt cache_facts backing_facts e before nodes bs p r spine old new u w
  cut e used why its_hand = record {
    these = take done nodes;
    more = drop done nodes;
    nodes_are = sym (take-append-drop done nodes);
    full = take done bs;
    rest = drop done bs;
    buckets_are = sym (take-append-drop done bs);
    between = v;
    wrote = subst (λ x. HaveWritten cache_facts backing_facts before spine.spine.geometry
        (take done nodes) (take done bs) p x u v) (sym kept) wrote;
    used = used;
    why = subst (λ x. IsCutBy cache_facts backing_facts e before spine.spine.geometry
        (drop done nodes) (drop done bs) (length (take done bs)) used x v w) (sym kept)
        (subst (λ k. IsCutBy cache_facts backing_facts e before spine.spine.geometry
        (drop done nodes) (drop done bs) k used q v w) (sym many)
        (subst (λ cs. IsCutBy cache_facts backing_facts e before spine.spine.geometry
        (drop done nodes) cs done used q v w) (sym (drop_next bs done b its_bucket))
        (subst (λ ns. IsCutBy cache_facts backing_facts e before spine.spine.geometry
        ns (b ∷ drop (done + 1) bs) done used q v w) (sym (drop_next nodes done n its_node)) why)));
    hand = its_hand;
  }

  pub stopped : (e : StepError)
      → HasFailedToWriteNew cache_facts backing_facts e before q n (slot_of q n) b at mid new v w
      → HaveStoppedAt cache_facts backing_facts e before nodes bs p r spine old new u w
  stopped (error.Fault device) h =
      cut (error.Fault device) (done + 1) (h.0, (refl, h.1)) (hand_used h.2)
  stopped (error.Halted device) h =
      cut (error.Halted device) done (h.0, refl, h.1) (hand_left h.2)
  stopped error.Memory h = absurd h
