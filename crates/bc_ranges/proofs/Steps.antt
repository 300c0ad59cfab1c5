-- Each state of a run, with what seats know of it.
use Rattle.std.proofs.Common.{◌≡◌, inl, ℕ, true, List, [], ◌∷◌, ◌++◌, None, Option, Some, refl, sym, ap, ◌∙◌, subst, arith}
use Rattle.bc_books.specs.Chains.{Many}
use Rattle.bc_books.specs.Books as book
use Rattle.bc_books.specs.Invariant.{IsInOrder}
use Rattle.bc_books.specs.Shelves.{Purpose, Priorities, by_room}
use Rattle.bc_books.proofs.Opening.{chain_at}
use Rattle.bc_collect.specs.Spare.{IsForChain}
use Rattle.bc_collect.proofs.Spare.{many_map}
use Rattle.bc_leaves.specs.Parts as parts
use Rattle.bc_whole.specs.State.{Opening}
use Rattle.bc_whole.specs.State as whole
use Rattle.bc_whole.specs.Run as whole_run
use Rattle.bc_whole.proofs.Kept.{Inv, reached, truthful}
use Rattle.bc_known.specs.Acts.{State, Act, Alone, Keyed, WriteCache, FailCache, CacheBarrier, Seal, MakeDurable, BeginBucket, Take, LetGo, ReadyChain, BeginChange, Install, ForgetDrafts, Event, after, kept, is_for_chain}
use Rattle.bc_known.specs.Run.{IsEnabled, IsRun, run, start}
use Rattle.bc_known.specs.Known.{IsKnown, HasHolder}
use Rattle.bc_known.specs.Laws.{IsSound}
use Rattle.bc_known.proofs.Writes.{write_enabled, fault_enabled}
use Rattle.bc_known.proofs.Others.{keyed_enabled, barrier_enabled, durable_enabled, bucket_enabled, seal_enabled, take_enabled, let_go_enabled, ready_enabled, change_enabled}
use Rattle.bc_known.proofs.Installed.{install_enabled}
use Rattle.bc_known.proofs.Spared.{keep_enabled}
use Rattle.bc_known.proofs.Stays.{alone_known, keyed_known, write_known, fault_known, barrier_known, bucket_known, forget_known, change_known, durable_known, seal_known}
use Rattle.bc_known.proofs.Moves.{take_known, let_go_known, ready_known, install_known}

run_join : (w : Opening) (st : whole.State) (xs ys : List whole.Event)
    → whole_run.run w st (xs ++ ys) ≡ whole_run.run w (whole_run.run w st xs) ys
run_join w st [] ys = refl
run_join w st (x ∷ xs) ys = run_join w (whole_run.after w st x.seat x.act) xs ys

is_run_join : (w : Opening) (st : whole.State) (xs ys : List whole.Event)
    → whole_run.IsRun w st xs → whole_run.IsRun w (whole_run.run w st xs) ys
    → whole_run.IsRun w st (xs ++ ys)
is_run_join w st [] ys a b = b
is_run_join w st (x ∷ xs) ys a b =
    (a.0, is_run_join w (whole_run.after w st x.seat x.act) xs ys a.1 b)

-- a state of a run of the whole machine, and one act more
pub record AtWhole (w : Opening) (x : parts.State) (st : whole.State) : Type 0 where
  pub events : List whole.Event
  pub run : whole_run.IsRun w (whole_run.start w x) events
  pub is : st ≡ whole_run.run w (whole_run.start w x) events

one_more : (w : Opening) (x : parts.State) (st : whole.State) (seat : ℕ) (act : whole.Act)
    → AtWhole w x st → whole_run.IsEnabled w st seat act
    → AtWhole w x (whole_run.after w st seat act)
one_more w x st seat act h on =
    let e : whole.Event = record { seat = seat; act = act } in record {
      events = h.events ++ (e ∷ []);
      run = is_run_join w (whole_run.start w x) h.events (e ∷ []) h.run
          (subst (λ y. whole_run.IsRun w y (e ∷ [])) h.is (on, tt));
      is = ap (λ y. whole_run.after w y seat act) h.is
          ∙ sym (run_join w (whole_run.start w x) h.events (e ∷ []));
    }

inv_at : (w : Opening) (x : parts.State) (st : whole.State) → IsSound w x → AtWhole w x st
    → Inv w st
inv_at w x st sound h = subst (λ y. Inv w y) (sym h.is) (reached w x h.events sound.whole h.run)

order_at : (w : Opening) (x : parts.State) (st : whole.State) → IsSound w x → AtWhole w x st
    → IsInOrder w.flow.books st.flow.books
order_at w x st sound h = (truthful w x st.flow sound.whole (inv_at w x st sound h).flow).books

pub record At (w : Opening) (x : parts.State) (st : State) : Type 0 where
  pub at : AtWhole w x st.whole
  pub known : IsKnown w st

module _ (w : Opening) (x : parts.State) (sound : IsSound w x) (st : State) (seat : ℕ)
    (h : At w x st) where
  pub inv : Inv w st.whole
  inv = inv_at w x st.whole sound h.at

  pub order : IsInOrder w.flow.books st.whole.flow.books
  order = order_at w x st.whole sound h.at

  pub keep : (act : Act) → IsEnabled w st seat act → At w x (after w st seat act)
  keep (Alone act) on = record {
    at = one_more w x st.whole seat (whole.Alone act) h.at
        (record { together = on.asks; flow = on.data_allows; store = tt });
    known = alone_known w st seat h.known order act on;
  }
  keep (Keyed act slot keys) on = record {
    at = one_more w x st.whole seat (whole.Keyed act slot keys) h.at
        (keyed_enabled w st seat inv h.known sound.laid order act slot keys on);
    known = keyed_known w st seat h.known order act slot keys on;
  }
  keep (WriteCache y values) on = record {
    at = one_more w x st.whole seat (whole.WriteCache y values) h.at
        (write_enabled w st seat inv h.known sound.laid order y values on);
    known = write_known w st seat h.known order y values on;
  }
  keep (FailCache y values) on = record {
    at = one_more w x st.whole seat (whole.FailCache y values) h.at
        (fault_enabled w st seat inv h.known sound.laid order y values on);
    known = fault_known w st seat h.known order y values on;
  }
  keep CacheBarrier on = record {
    at = one_more w x st.whole seat whole.CacheBarrier h.at
        (barrier_enabled w st seat inv h.known sound.laid order on);
    known = barrier_known w st seat h.known order;
  }
  keep (Seal last_seq rest root chain) on = record {
    at = one_more w x st.whole seat (whole.Seal last_seq rest root chain) h.at
        (seal_enabled w st seat inv h.known sound.laid order last_seq rest root chain on);
    known = seal_known w st seat h.known order last_seq rest root chain on;
  }
  keep MakeDurable on = record {
    at = one_more w x st.whole seat whole.MakeDurable h.at
        (durable_enabled w st seat inv h.known sound.laid order on);
    known = durable_known w st seat h.known order on;
  }
  keep (BeginBucket b) on = record {
    at = one_more w x st.whole seat (whole.BeginBucket b) h.at
        (bucket_enabled w st seat inv h.known sound.laid order b on);
    known = bucket_known w st seat h.known order b;
  }
  keep (Take p b) on = record {
    at = one_more w x st.whole seat (whole.Take p b) h.at
        (take_enabled w st seat inv h.known sound.laid order p b on);
    known = take_known w st seat inv h.known sound.laid order p b on;
  }
  keep (LetGo b room) on =
      let one = one_more w x st.whole seat (whole.LetGo b room) h.at
      (let_go_enabled w st seat inv h.known sound.laid order b room on) in
      let st1 = whole_run.after w st.whole seat (whole.LetGo b room) in
      let known = let_go_known w st seat inv h.known sound.laid order b room on
      (inv_at w x st1 sound one) in
      record {
        at = one_more w x st1 seat (whole.KeepSpare (kept w st1)) one
            (keep_enabled w st1 seat (inv_at w x st1 sound one) sound.laid
            (order_at w x st1 sound one) known.reserve);
        known = known;
      }
  keep (ReadyChain room) on =
      let one = one_more w x st.whole seat (whole.ReadyChain room
      (st.whole.store.buckets st.whole.store.ready_chain)) h.at
      (ready_enabled w st seat inv h.known sound.laid order room on) in
      let st1 = whole_run.after w st.whole seat (whole.ReadyChain room
      (st.whole.store.buckets st.whole.store.ready_chain)) in
      let known = ready_known w st seat inv h.known sound.laid order room on
      (inv_at w x st1 sound one) in
      record {
        at = one_more w x st1 seat (whole.KeepSpare (kept w st1)) one
            (keep_enabled w st1 seat (inv_at w x st1 sound one) sound.laid
            (order_at w x st1 sound one) known.reserve);
        known = known;
      }
  keep (BeginChange low high gone come old new un) on = record {
    at = one_more w x st.whole seat (whole.BeginChange low high gone come old new un) h.at
        (change_enabled w st seat inv h.known sound.laid order low high gone come old new un on);
    known = change_known w st seat h.known order low high gone come old new un on;
  }
  keep (Install un steps) on = record {
    at = one_more w x st.whole seat (whole.Install un steps) h.at
        (install_enabled w st seat inv h.known sound.laid order un steps on);
    known = install_known w st seat inv h.known sound.laid order un steps on;
  }
  keep ForgetDrafts on = record {
    at = one_more w x st.whole seat whole.ForgetDrafts h.at
        (record { together = tt; flow = tt; store = tt });
    known = forget_known w st seat h.known order;
  }

by_none : (o : Option Purpose) → HasHolder (by_room o) None
by_none None = refl
by_none (Some p) = refl

pub opened : (w : Opening) (x : parts.State) (next_seq : ℕ) → IsSound w x → At w x (start w x next_seq)
opened w x next_seq sound = record {
  at = record { events = []; run = tt; is = refl };
  known = record {
    holders = λ q. by_none (w.flow.books.listed q);
    nodes = record {
      leaves = λ k some. inl (sound.leaves k some);
      inner_nodes = λ k some. inl (sound.inner_nodes k some);
    };
    spare = λ q i. ap (λ o. is_for_chain (by_room o)) (sound.spare q i);
    reserve = many_map w.flow.books.sets (λ b. w.flow.books.listed b ≡ Some Priorities)
        (λ b. IsForChain (by_room (w.flow.books.listed b))) (λ b e. inl (ap by_room e))
        sound.whole.pair.books.next;
    chains = λ c low high. let is : c ≡ 0 = omega (arith, low, high) in
        subst (λ n. Many w.flow.books.sets
        (λ b. (book.opened w.flow.books).chains.of b ≡ Some n)) (sym is)
        (many_map w.flow.books.sets (λ b. w.flow.books.chain b ≡ true)
        (λ b. (book.opened w.flow.books).chains.of b ≡ Some 0)
        (λ b e. chain_at w.flow.books sound.whole.pair.books b e)
        sound.whole.pair.books.sets);
    own = λ q e. absurd (cc);
    seqs = λ q at e wrote. absurd wrote;
  };
}
