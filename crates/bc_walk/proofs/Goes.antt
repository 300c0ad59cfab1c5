-- How a walk goes on a device that was read several times.
use Rattle.std.proofs.Common.{◌≡◌, ◌≢◌, inl, inr, ℕ, zero, suc, ◌+◌, ◌<◌, ◌≤◌, ◌^◌, List, [], ◌∷◌, ◌++◌, length, drop, get_or, Option, Some, None, refl, sym, subst, ap, ◌∙◌}
use Rattle.std.specs.Prelude.{Result, Ok, Err, IfOk, IfErr, IsErrAnd}
use Rattle.std.proofs.Math.ListN.{drop_of_length-le}
use Rattle.std.proofs.lemmas.List.{append-nil, drop_more}
use Rattle.bc_disk.specs.Disk.{DiskFacts, IfTold, BothTold, IsKept}
use Rattle.bc_disk.specs.declared.geometry.Geometry.{Geometry}
use Rattle.bc_model.specs.Sector.{Image}
use Rattle.bc_image.specs.Children.{children_of}
use Rattle.bc_image.specs.Tree.{set_keys}
use Rattle.bc_key.specs.declared.key.Key.{Key}
use Rattle.bc_node.specs.declared.error.NodeError.{NodeError}
use Rattle.bc_set.specs.declared.set.Set.{Set}
use Rattle.bc_walk.specs.declared.error.WalkError.{WalkError}
use Rattle.bc_walk.specs.declared.error.WalkError.TheVariants as errors
use Rattle.bc_walk.specs.declared.visit.Visit.{Visit}
use Rattle.bc_walk.specs.declared.visit.Visit.TheVariants as visits
use Rattle.bc_walk.specs.Loading.{IsUnread, AreChildren, TakesLeaf}
use Rattle.bc_walk.specs.Seen.{found_of, IsPassed, TakesNode, Went, Ended, WentWhole, EndedWhole}
use Rattle.bc_walk.specs.Walk.{Found, Way, IsWhole, IsNodeFault, IsStep, AreSearches, IsSearch, IsIndexSearch, with_node}
use Rattle.bc_walk.specs.Walk.IsStep.{barred, again, faulty, met}
use Rattle.bc_walk.proofs.Nodes.{told_so}

-- an error that is passed on
pub passed_on : {T : Type 0} (r : Result T WalkError) (e : WalkError) (Q : WalkError → Type 0) → IsErrAnd r (λ x. x ≡ e) → Q e → IfErr r Q
passed_on (Ok x) e Q is holds = tt
passed_on (Err x) e Q is holds = subst Q (sym is) holds

pub on_ok : {T E : Type 0} (r : Result T E) (P Q : T → Type 0) → ((t : T) → P t → Q t) → IfOk r P → IfOk r Q
on_ok (Ok t) P Q so p = so t p
on_ok (Err e) P Q so p = tt

pub on_err : {T E : Type 0} (r : Result T E) (P Q : E → Type 0) → ((e : E) → P e → Q e) → IfErr r P → IfErr r Q
on_err (Ok t) P Q so p = tt
on_err (Err e) P Q so p = so e p

pub kept_both : (a b c : DiskFacts) → IsKept a b → IsKept b c → IsKept a c
kept_both a b c first then = record {
  sectors = then.sectors ∙ first.sectors;
  holds = go a.holds b.holds c.holds first.holds then.holds;
  leaves = λ image. ((λ may. (first.leaves image).0 ((then.leaves image).0 may)), (λ may. (then.leaves image).1 ((first.leaves image).1 may)));
}
  where
    go : (x y z : Option Image) → BothTold (λ (p q : Image). (s : ℕ) → q s ≡ p s) x y → BothTold (λ (p q : Image). (s : ℕ) → q s ≡ p s) y z → BothTold (λ (p q : Image). (s : ℕ) → q s ≡ p s) x z
    go None None z one two = two
    go None (Some y) z one two = elim one [ ]
    go (Some x) None z one two = elim one [ ]
    go (Some x) (Some y) None one two = two
    go (Some x) (Some y) (Some z) one two = λ s. two s ∙ one s

-- what holds of an image that a device has after it kept all held of the one before
pub told_back : (P : Image → Type 0) (a b : DiskFacts) → IsKept a b → IfTold b.holds P → IfTold a.holds P
told_back P a b kept so = go a.holds b.holds kept.holds so
  where
    go : (x y : Option Image) → BothTold (λ (p q : Image). (s : ℕ) → q s ≡ p s) x y → IfTold y P → IfTold x P
    go None y both p = tt
    go (Some x) None both p = elim both [ ]
    go (Some x) (Some y) both p = let same : y ≡ x = (λ i. λ s. both s i) in subst P same p

pub two_told : (P Q R : Image → Type 0) (o : Option Image) → ((image : Image) → P image → Q image → R image) → IfTold o P → IfTold o Q → IfTold o R
two_told P Q R None f p q = tt
two_told P Q R (Some image) f p q = f image p q

told_all : (P : Image → Type 0) (o : Option Image) → ((image : Image) → P image) → IfTold o P
told_all P None f = tt
told_all P (Some image) f = f image

-- a step at a key whose node's children are left, and at one of an inner node
step_at : (g : Geometry) (image : Image) (level from : ℕ) (key : Key) (old : Found) (way : Way) → ((below : List Key → Found → Way → Type 0) → IsStep g image level from key below old way) → IsSearch g image level from key old way
step_at g image zero from key old way step = step (λ children found next. next ≡ Ok found)
step_at g image (suc level) from key old way step = step (AreSearches (IsSearch g image level) from)

module _ (g : Geometry) (level from : ℕ) (key : Key) where
  abbrev Search : Image → Found → Way → Type 0
  Search image = IsSearch g image level from key

  passed : (image : Image) (old new : List Visit) (keys : List Key) → IsPassed g key old new → Search image (found_of old keys) (Ok (found_of new keys))
  passed image old new keys (inl p) = step_at g image level from key (found_of old keys) (Ok (found_of new keys)) (λ below. barred p.0 (ap (λ (vs : List Visit). Ok (found_of vs keys)) p.1))
  passed image old new keys (inr p) = step_at g image level from key (found_of old keys) (Ok (found_of new keys)) (λ below. again p.0 (ap (λ (vs : List Visit). Ok (found_of vs keys)) p.1))

  pub passed_went : (d : DiskFacts) (took : List Key → Type 0) (old new : List Visit) → IsPassed g key old new → Went d Search took took old new
  passed_went d took old new p =
      told_all (λ image. (keys : List Key) → took keys → (more : List Key) × took more × Search image (found_of old keys) (Ok (found_of new more))) d.holds (λ image keys k. (keys, k, passed image old new keys p))

  fault_ends : (image : Image) (old new : List Visit) (keys : List Key) (bucket at : ℕ) (why : NodeError) → TakesNode g level from key old new bucket → at ≡ bucket → IsNodeFault g image level from key why
      → Search image (found_of old keys) (Err (errors.Node at why))
  fault_ends image old new keys bucket at why takes is fault =
      step_at g image level from key (found_of old keys) (Err (errors.Node at why)) (λ below. faulty bucket why takes.0 fault (ap (λ n. Err (errors.Node n why)) is))

  pub unread_ended : (d : DiskFacts) (took : List Key → Type 0) (old new : List Visit) (bucket : ℕ) (e : WalkError) → TakesNode g level from key old new bucket → IsUnread d g level from key bucket e → Ended d Search took old e
  unread_ended d took old new bucket (errors.Node at why) takes unread =
      told_so d.holds (λ image. (at ≡ bucket) × IsNodeFault g image level from key why) (λ image. (keys : List Key) → took keys → Search image (found_of old keys) (Err (errors.Node at why)))
      (λ image so keys k. fault_ends image old new keys bucket at why takes so.0 so.1) unread
  unread_ended d took old new bucket errors.Fault takes unread = tt
  unread_ended d took old new bucket errors.Memory takes unread = tt

  -- ---- a leaf

  leaf_met : (image : Image) (old new : List Visit) (keys : List Key) (bucket : ℕ) (ss : List Set) → level ≡ 0 → TakesNode g level from key old new bucket → IsWhole g image 0 from key ss
      → Search image (found_of old keys) (Ok (found_of new (keys ++ set_keys ss)))
  leaf_met image old new keys bucket ss is takes whole =
      let step : IsSearch g image 0 from key (found_of old keys) (Ok (found_of (old ++ visits.Met 0 from key ∷ []) (keys ++ set_keys ss))) = met bucket ss takes.0 whole refl in
      let here : IsSearch g image level from key (found_of old keys) (Ok (found_of (old ++ visits.Met level from key ∷ []) (keys ++ set_keys ss))) =
      subst (λ l. IsSearch g image l from key (found_of old keys) (Ok (found_of (old ++ visits.Met l from key ∷ []) (keys ++ set_keys ss)))) (sym is) step in
      subst (λ (vs : List Visit). Search image (found_of old keys) (Ok (found_of vs (keys ++ set_keys ss)))) (sym takes.1) here

  pub leaf_went : (d : DiskFacts) (took gives : List Key → Type 0) (old new : List Visit) (bucket : ℕ) → level ≡ 0 → TakesNode g level from key old new bucket → TakesLeaf d g from key took gives → Went d Search took gives old new
  leaf_went d took gives old new bucket is takes leaf =
      told_so d.holds (λ image. (sets : List Set) × IsWhole g image 0 from key sets × ((keys : List Key) → took keys → gives (keys ++ set_keys sets)))
      (λ image. (keys : List Key) → took keys → (more : List Key) × gives more × Search image (found_of old keys) (Ok (found_of new more)))
      (λ image so keys k. (keys ++ set_keys so.0, so.2 keys k, leaf_met image old new keys bucket so.0 is takes so.1)) leaf

  pub leaf_ended : (d : DiskFacts) (took : List Key → Type 0) (old new : List Visit) (bucket : ℕ) (e : WalkError) → level ≡ 0 → TakesNode g level from key old new bucket → IsUnread d g 0 from key bucket e → Ended d Search took old e
  leaf_ended d took old new bucket e is takes unread = unread_ended d took old new bucket e takes (subst (λ l. IsUnread d g l from key bucket e) (sym is) unread)

  -- ---- an inner node

  module _ (below : ℕ) (above : level ≡ suc below) where
    inner_met : (image : Image) (old mid : List Visit) (keys : List Key) (bucket : ℕ) (ss : List Set) (children : List Key) (way : Way) → TakesNode g level from key old mid bucket → IsWhole g image level from key ss
        → children ≡ children_of (set_keys ss) → AreSearches (IsSearch g image below) from children (found_of mid keys) way → Search image (found_of old keys) way
    inner_met image old mid keys bucket ss children way takes whole are goes =
        let grown : mid ≡ old ++ visits.Met (suc below) from key ∷ [] = takes.1 ∙ ap (λ l. old ++ visits.Met l from key ∷ []) above in
        let same : found_of mid keys ≡ with_node (found_of old keys) (suc below) from key ss = (λ i. record { visits = grown i; keys = sym (append-nil keys) i }) in
        let on = subst (λ (f : Found). AreSearches (IsSearch g image below) from (children_of (set_keys ss)) f way) same
        (subst (λ (cs : List Key). AreSearches (IsSearch g image below) from cs (found_of mid keys) way) are goes) in
        let step : IsSearch g image (suc below) from key (found_of old keys) way = met bucket ss takes.0 (subst (λ l. IsWhole g image l from key ss) above whole) on in
        subst (λ l. IsSearch g image l from key (found_of old keys) way) (sym above) step

    pub inner_went : (d next : DiskFacts) (took gives : List Key → Type 0) (old mid new : List Visit) (bucket : ℕ) (children : List Key) → TakesNode g level from key old mid bucket → AreChildren d g level from key children → IsKept d next
        → Went next (λ image. AreSearches (IsSearch g image below) from children) took gives mid new → Went d Search took gives old new
    inner_went d next took gives old mid new bucket children takes are kept went =
        two_told (λ image. (sets : List Set) × IsWhole g image level from key sets × (children ≡ children_of (set_keys sets)))
        (λ image. (keys : List Key) → took keys → (more : List Key) × gives more × AreSearches (IsSearch g image below) from children (found_of mid keys) (Ok (found_of new more)))
        (λ image. (keys : List Key) → took keys → (more : List Key) × gives more × Search image (found_of old keys) (Ok (found_of new more))) d.holds
        (λ image node so keys k. (let more = so keys k in (more.0, more.1, inner_met image old mid keys bucket node.0 children (Ok (found_of new more.0)) takes node.1 node.2 more.2)))
        are (told_back (λ image. (keys : List Key) → took keys → (more : List Key) × gives more × AreSearches (IsSearch g image below) from children (found_of mid keys) (Ok (found_of new more))) d next kept went)

    pub inner_ended : (d next : DiskFacts) (took : List Key → Type 0) (old mid : List Visit) (bucket : ℕ) (children : List Key) (e : WalkError) → TakesNode g level from key old mid bucket → AreChildren d g level from key children → IsKept d next
        → Ended next (λ image. AreSearches (IsSearch g image below) from children) took mid e → Ended d Search took old e
    inner_ended d next took old mid bucket children (errors.Node at why) takes are kept ended =
        two_told (λ image. (sets : List Set) × IsWhole g image level from key sets × (children ≡ children_of (set_keys sets)))
        (λ image. (keys : List Key) → took keys → AreSearches (IsSearch g image below) from children (found_of mid keys) (Err (errors.Node at why)))
        (λ image. (keys : List Key) → took keys → Search image (found_of old keys) (Err (errors.Node at why))) d.holds
        (λ image node so keys k. inner_met image old mid keys bucket node.0 children (Err (errors.Node at why)) takes node.1 node.2 (so keys k))
        are (told_back (λ image. (keys : List Key) → took keys → AreSearches (IsSearch g image below) from children (found_of mid keys) (Err (errors.Node at why))) d next kept ended)
    inner_ended d next took old mid bucket children errors.Fault takes are kept ended = tt
    inner_ended d next took old mid bucket children errors.Memory takes are kept ended = tt

-- ---- children

abbrev pub LeadsOn : (ℕ → Key → Found → Way → Type 0) → ℕ → List Key → Found → ℕ → List Key → Found → Type 0
LeadsOn search from children old low left now = (way : Way) → AreSearches search low left now way → AreSearches search from children old way

abbrev pub Leads : DiskFacts → (Image → ℕ → Key → Found → Way → Type 0) → (List Key → Type 0) → (List Key → Type 0) → ℕ → List Key → List Visit → ℕ → List Key → List Visit → Type 0
Leads d search took takes from children old low left now =
    IfTold d.holds (λ image. (keys : List Key) → took keys → (more : List Key) × takes more × LeadsOn (search image) from children (found_of old keys) low left (found_of now more))

pub one_left : (children : List Key) (i : ℕ) (child : Key) → i < length children → child ≡ get_or children i child → drop i children ≡ child ∷ drop (i + 1) children
one_left children i child low is = drop_more children i child low ∙ ap (λ (k : Key). k ∷ drop (i + 1) children) (sym is)

module _ (d : DiskFacts) (search : Image → ℕ → Key → Found → Way → Type 0) (took : List Key → Type 0) (from : ℕ) (children : List Key) (old : List Visit) where
  pub leads_first : Leads d search took took from children old from children old
  leads_first =
      told_all (λ image. (keys : List Key) → took keys → (more : List Key) × took more × LeadsOn (search image) from children (found_of old keys) from children (found_of old more)) d.holds (λ image keys k. (keys, k, λ way p. p))

  step_on : (image : Image) (start : Found) (low : ℕ) (child : Key) (left after : List Key) (now next : Found) → left ≡ child ∷ after → LeadsOn (search image) from children start low left now → search image low child now (Ok next)
      → LeadsOn (search image) from children start child.end after next
  step_on image start low child left after now next split on here way rest =
      on way (subst (λ (cs : List Key). AreSearches (search image) low cs now way) (sym split) (Ok next, here, rest))

  end_on : (image : Image) (start : Found) (low : ℕ) (child : Key) (left after : List Key) (now : Found) (e : WalkError) → left ≡ child ∷ after → LeadsOn (search image) from children start low left now → search image low child now (Err e)
      → AreSearches (search image) from children start (Err e)
  end_on image start low child left after now e split on here =
      on (Err e) (subst (λ (cs : List Key). AreSearches (search image) low cs now (Err e)) (sym split) (Err e, here, refl))

  module _ (mid : DiskFacts) (kept : IsKept d mid) (low : ℕ) (child : Key) (left after : List Key) (split : left ≡ child ∷ after) (holds : List Key → Type 0) (now : List Visit) where
    pub leads_more : (takes : List Key → Type 0) (next : List Visit) → Leads d search took holds from children old low left now → Went mid (λ image. search image low child) holds takes now next
        → Leads d search took takes from children old child.end after next
    leads_more takes next leads went =
        two_told (λ image. (keys : List Key) → took keys → (more : List Key) × holds more × LeadsOn (search image) from children (found_of old keys) low left (found_of now more))
        (λ image. (keys : List Key) → holds keys → (more : List Key) × takes more × search image low child (found_of now keys) (Ok (found_of next more)))
        (λ image. (keys : List Key) → took keys → (more : List Key) × takes more × LeadsOn (search image) from children (found_of old keys) child.end after (found_of next more)) d.holds
        (λ image on here keys k.
        (let at = on keys k in let more = here at.0 at.1 in
        (more.0, more.1, step_on image (found_of old keys) low child left after (found_of now at.0) (found_of next more.0) split at.2 more.2)))
        leads (told_back (λ image. (keys : List Key) → holds keys → (more : List Key) × takes more × search image low child (found_of now keys) (Ok (found_of next more))) d mid kept went)

    pub leads_ended : (e : WalkError) → Leads d search took holds from children old low left now → Ended mid (λ image. search image low child) holds now e → Ended d (λ image. AreSearches (search image) from children) took old e
    leads_ended (errors.Node at why) leads ended =
        two_told (λ image. (keys : List Key) → took keys → (more : List Key) × holds more × LeadsOn (search image) from children (found_of old keys) low left (found_of now more))
        (λ image. (keys : List Key) → holds keys → search image low child (found_of now keys) (Err (errors.Node at why)))
        (λ image. (keys : List Key) → took keys → AreSearches (search image) from children (found_of old keys) (Err (errors.Node at why))) d.holds
        (λ image on here keys k. (let so = on keys k in end_on image (found_of old keys) low child left after (found_of now so.0) (errors.Node at why) split so.2 (here so.0 so.1)))
        leads (told_back (λ image. (keys : List Key) → holds keys → search image low child (found_of now keys) (Err (errors.Node at why))) d mid kept ended)
    leads_ended errors.Fault leads ended = tt
    leads_ended errors.Memory leads ended = tt

  pub all_went : (takes : List Key → Type 0) (low i : ℕ) (now : List Visit) → length children ≤ i → Leads d search took takes from children old low (drop i children) now → Went d (λ image. AreSearches (search image) from children) took takes old now
  all_went takes low i now end leads =
      told_so d.holds (λ image. (keys : List Key) → took keys → (more : List Key) × takes more × LeadsOn (search image) from children (found_of old keys) low (drop i children) (found_of now more))
      (λ image. (keys : List Key) → took keys → (more : List Key) × takes more × AreSearches (search image) from children (found_of old keys) (Ok (found_of now more)))
      (λ image on keys k.
      (let at = on keys k in
      (at.0, at.1, at.2 (Ok (found_of now at.0)) (subst (λ (cs : List Key). AreSearches (search image) low cs (found_of now at.0) (Ok (found_of now at.0))) (sym (drop_of_length-le children end)) refl))))
      leads

-- ---- the whole index

module _ (d : DiskFacts) (g : Geometry) (level : ℕ) (root : Key) (took : List Key → Type 0) (none : took []) where
  pub root_barred : (new : List Visit) → root.end ≢ 2 ^ 40 → new ≡ visits.Barred root ∷ [] → WentWhole d g level root took new
  root_barred new other is =
      told_all (λ image. (keys : List Key) × took keys × IsIndexSearch g image level root (Ok (found_of new keys))) d.holds (λ image. ([], none, inl (other, ap (λ (vs : List Visit). Ok (found_of vs [])) is)))

  pub whole_went : (takes : List Key → Type 0) (old new : List Visit) → root.end ≡ 2 ^ 40 → old ≡ [] → Went d (λ image. IsSearch g image level 0 root) took takes old new → WentWhole d g level root takes new
  whole_went takes old new is empty went =
      told_so d.holds (λ image. (keys : List Key) → took keys → (more : List Key) × takes more × IsSearch g image level 0 root (found_of old keys) (Ok (found_of new more)))
      (λ image. (keys : List Key) × takes keys × IsIndexSearch g image level root (Ok (found_of new keys)))
      (λ image so. (let more = so [] none in (more.0, more.1, inr (is, subst (λ (vs : List Visit). IsSearch g image level 0 root (found_of vs []) (Ok (found_of new more.0))) empty more.2)))) went

  pub whole_ended : (old : List Visit) (e : WalkError) → root.end ≡ 2 ^ 40 → old ≡ [] → Ended d (λ image. IsSearch g image level 0 root) took old e → EndedWhole d g level root e
  whole_ended old (errors.Node bucket why) is empty ended =
      told_so d.holds (λ image. (keys : List Key) → took keys → IsSearch g image level 0 root (found_of old keys) (Err (errors.Node bucket why))) (λ image. IsIndexSearch g image level root (Err (errors.Node bucket why)))
      (λ image so. inr (is, subst (λ (vs : List Visit). IsSearch g image level 0 root (found_of vs []) (Err (errors.Node bucket why))) empty (so [] none))) ended
  whole_ended old errors.Fault is empty ended = tt
  whole_ended old errors.Memory is empty ended = tt
