-- The small pair that was made anew takes an opening's entry.
use Rattle.std.proofs.Common.{◌≡◌, ◌≢◌, ◌⊎◌, inl, inr, ℕ, ◌+◌, ◌*◌, ◌<◌, ◌≤◌, List, [], ◌∷◌, get_or}
use Rattle.std.proofs.Common.{Option, Some, None, refl, sym, ap, subst, lit<, lit≤, arith}
use Rattle.std.proofs.lemmas.List.Elements.{All-nil, All-cons}
use Rattle.bc_model.specs.Pattern.{zeros}
use Rattle.bc_model.specs.Sector.{Value, at_run, unless, values_of}
use Rattle.bc_disk.specs.declared.geometry.Geometry.{Geometry}
use Rattle.bc_jset.specs.declared.entry.JEntry.{JEntry}
use Rattle.bc_jset.specs.Entries.{FoundEntry, StandIn}
use Rattle.bc_jset.specs.Records.{entry_kind}
use Rattle.bc_jset.specs.Ring.{HasRoom, bucket_of}
use Rattle.bc_jset.proofs.Entries.{one_stand}
use Rattle.bc_jset.proofs.Records.{entry_codec}
use Rattle.bc_record.specs.Places.{end_of}
use Rattle.bc_record.proofs.Found.{one_found}
use Rattle.bc_super.specs.Division.{IsPassThrough}
use Rattle.bc_super.specs.declared.backing.BackingSuper.{BackingSuper}
use Rattle.bc_super.specs.declared.cache.CacheSuper.{CacheSuper}
use Rattle.bc_image.specs.Formatted.{HasOneSet, IsFormatted}
use Rattle.bc_image.specs.NewPair.{new_pair}
use Rattle.bc_image.specs.Pair.{Pair}
use Rattle.bc_image.specs.Reading.{IsView, View}
use Rattle.bc_image.specs.Sound.{HasSoundParts, HasSuperblocks}
use Rattle.bc_image.proofs.Formatted.{all_stand, first_found, first_listed}
use Rattle.bc_image.proofs.Fresh.{fresh_is_sound, fresh_is_view, fresh_view}
use Rattle.bc_image.proofs.NewPair.{backing, cache, entry, first_entry, is_formatted, superblocks}
use Rattle.bc_image.proofs.Unique.{one_backing, one_view}
use Rattle.bc_entries.specs.Lists.{last_numbers}
use Rattle.bc_entries.specs.Journal.{HasJournal, Journal as Read}
use Rattle.bc_journal.specs.Sealed.{Sealed}
use Rattle.bc_enter.specs.Entry.{IsBehind, IsInFront, IsOpeningEntry}
use Rattle.bc_enter.specs.Next.{IsNext}
use Rattle.bc_entered.specs.Enter.{TearsNone, WasRead}
use Rattle.bc_entered.specs.Entry.{IsEntryAt}
use Rattle.bc_entered.specs.Laws.{IsEntered}
use Rattle.bc_entered.proofs.Next.{law_next}
use Rattle.bc_entered_example.specs.Laws.{HasEntered, HasHeld, HasReady}
use Rattle.bc_entered_example.proofs.Bytes.{second, second_bytes, second_sector, small}
use Rattle.bc_entered_example.proofs.Ready.{law_ready}
use Rattle.bc_entered_example.proofs.Torn.{law_tears}

-- ---- what is read

not_through : (p : Pair) (b : BackingSuper) (c : CacheSuper) (g : Geometry) → IsFormatted p b c g
    → HasSuperblocks b c → (d : BackingSuper) → d ≡ b → IsPassThrough d → ⊥
not_through p b c g f supers d same alone =
    let flags = ap (λ (s : BackingSuper). s.flags) same in
    elim supers.state [
      | inl clean ↦ omega (arith, clean, alone.1, flags)
      | inr dirty ↦ omega (arith, dirty, alone.1, flags)
    ]

-- a pair that was made anew is sound with what is read of it
sound_parts : (p : Pair) (b : BackingSuper) (c : CacheSuper) (g : Geometry)
    (f : IsFormatted p b c g) → HasSuperblocks b c → HasSoundParts p (fresh_view p b c g f)
sound_parts p b c g f supers = elim (fresh_is_sound p b c g f supers) [
  | inl alone ↦ absurd (not_through p b c g f supers alone.0
      (one_backing p alone.0 b alone.1 f.backing) alone.2)
  | inr k ↦ subst (λ (v : View). HasSoundParts p v)
      (one_view p k.0 (fresh_view p b c g f) k.1 (fresh_is_view p b c g f supers.initialised.1)) k.2
]

-- the small pair, with its first entry as it was computed
first_is : is_formatted.entry ≡ entry
first_is = one_found (entry_kind small) (entry_codec small) new_pair.cache 128 64 is_formatted.entry
    entry is_formatted.first_entry.stands first_entry.stands

abbrev formatted : IsFormatted new_pair backing cache small
formatted = record {
  backing = is_formatted.backing;
  cache = is_formatted.cache;
  geometry = is_formatted.geometry;
  divided = is_formatted.divided;
  entry = entry;
  first_entry = first_entry;
  gens = is_formatted.gens;
  chain = is_formatted.chain;
  in_order = is_formatted.in_order;
  entries = is_formatted.entries;
  table = is_formatted.table;
  named = is_formatted.named;
  leaf = is_formatted.leaf;
  leaf_key = is_formatted.leaf_key;
  root_set = is_formatted.root_set;
  has_root = subst (λ (e : JEntry). HasOneSet small new_pair.cache 1 e.root is_formatted.root_set)
      first_is is_formatted.has_root;
  children = is_formatted.children;
  leaf_set = is_formatted.leaf_set;
  has_leaf = is_formatted.has_leaf;
  empty = is_formatted.empty;
}

abbrev view : View
view = fresh_view new_pair backing cache small formatted

view_is : IsView new_pair view
view_is = fresh_is_view new_pair backing cache small formatted superblocks.initialised.1

parts_are : HasSoundParts new_pair view
parts_are = sound_parts new_pair backing cache small formatted superblocks

abbrev found : FoundEntry
found = first_found small new_pair.cache entry first_entry

abbrev read : Read
read = record { entries = found ∷ []; all = found ∷ [] }

-- all that is found
alone : (all : List FoundEntry) → StandIn small new_pair.cache 8 all → all ≡ found ∷ []
alone all stand = one_stand small new_pair.cache 8 all (found ∷ []) stand
    (all_stand small new_pair.cache entry first_entry (lit< tt))

-- ---- where an entry may go

is_behind : IsBehind small (found ∷ []) found 0 65
is_behind = record {
  next = record {
    last = (0, found, lit< tt, refl, (refl, refl));
    behind = All-cons (λ (f : FoundEntry). bucket_of small f ≡ bucket_of small found
        → end_of (entry_kind small) f ≤ 65) found [] (λ same. lit≤ tt)
        (All-nil (λ (f : FoundEntry). bucket_of small f ≡ bucket_of small found
        → end_of (entry_kind small) f ≤ 65));
  };
  bucket = refl;
}

is_in_front : IsInFront small (found ∷ []) found 1 128
is_in_front = record {
  free = All-cons (λ (f : FoundEntry). bucket_of small f ≡ 2 → f.item.seq < 1) found []
      (λ same. absurd (omega (arith, same)))
      (All-nil (λ (f : FoundEntry). bucket_of small f ≡ 2 → f.item.seq < 1));
  first = refl;
}

-- ---- what was read

room : HasRoom small (found ∷ []) (found ∷ []) found
room = record { next = 65; place = is_behind.next; room = inl (lit≤ tt) }

journal : HasJournal small new_pair.cache read
journal =
    let listed = first_listed small new_pair.cache entry first_entry (lit< tt) in record {
      entries = listed.0;
      all = alone listed.0.all listed.0.stand;
      number = subst (λ (e : FoundEntry). e.item.seq < last_numbers) (sym listed.1) (lit< tt);
      room = subst (λ (e : FoundEntry). HasRoom small (found ∷ []) (found ∷ []) e) (sym listed.1)
          room;
    }

was_read : WasRead new_pair view read
was_read = record { journal = journal; entries = refl }

tears_none : TearsNone small new_pair.cache read
tears_none = law_tears new_pair backing cache small read formatted journal

-- ---- the entry that comes next, behind the first one or at the front of the bucket behind

opening_entry : IsOpeningEntry (found ∷ []) found second
opening_entry = record {
  number = refl;
  from = lit≤ tt;
  to = lit≤ tt;
  needed = All-cons (λ (f : FoundEntry). f.item.keys ≢ [] → 2 ≤ f.item.seq) found []
      (λ some. absurd (some refl))
      (All-nil (λ (f : FoundEntry). f.item.keys ≢ [] → 2 ≤ f.item.seq));
  none = refl;
  uuid_bucket = refl;
  root = refl;
  level = refl;
  prio = refl;
}

abbrev sealed_at : (bucket sector : ℕ) → Sealed
sealed_at bucket sector = record {
  geometry = small;
  place = record { bucket = bucket; sector = sector };
  entry = second;
}

next_behind : IsNext small read (sealed_at 0 1)
next_behind = record {
  older = [];
  newest = found;
  parts = refl;
  geometry = refl;
  entry = opening_entry;
  oldest = inl refl;
  place = record { journal = lit< tt; fits = lit≤ tt; place = inl is_behind };
}

next_in_front : IsNext small read (sealed_at 1 0)
next_in_front = record {
  older = [];
  newest = found;
  parts = refl;
  geometry = refl;
  entry = opening_entry;
  oldest = inl refl;
  place = record { journal = lit< tt; fits = lit≤ tt; place = inr is_in_front };
}

abbrev values : List Value
values = values_of second_sector

abbrev IsAt : ℕ → ℕ → Type 0
IsAt b at = IsEntryAt small new_pair.cache view.reading second b at values

entry_at : (b sector at : ℕ) → 64 * (1 + b) + sector ≡ at → IsNext small read (sealed_at b sector)
    → IsAt b at
entry_at b sector at is next =
    subst (λ place. IsAt b place) is
    (law_next small new_pair.cache view.reading read (sealed_at b sector) second_sector
    view_is.reading journal refl next second_bytes
    (tears_none (sealed_at b sector) second_sector next second_bytes))

entry_behind : IsAt 0 65
entry_behind = entry_at 0 1 65 refl next_behind

entry_in_front : IsAt 1 128
entry_in_front = entry_at 1 0 128 refl next_in_front

front_is : IsInFront small entry_in_front.all found 1 128
front_is = subst (λ (es : List FoundEntry). IsInFront small es found 1 128)
    (sym (alone entry_in_front.all entry_in_front.stand)) is_in_front

-- ---- what a crash leaves of it: all of it

cell : (o : Option Value) (old : Value) → (unless o old ≡ old) ⊎ (o ≡ Some (unless o old))
cell None old = inl refl
cell (Some v) old = inr refl

abbrev left_at : ℕ → Pair
left_at at = record {
  cache = λ s. unless (at_run at values s) (new_pair.cache s);
  cache_sectors = 8192;
  backing = new_pair.backing;
  backing_sectors = 1000;
}

entered_at : (at : ℕ) → IsEntered new_pair at values (left_at at)
entered_at at = record {
  cache = λ s. cell (at_run at values s) (new_pair.cache s);
  backing = λ s. refl;
  cache_sectors = refl;
  backing_sectors = refl;
}

-- the entry's first byte isn't zero
not_zeros : second_sector ≢ zeros
unfolding zeros
not_zeros same = absurd (omega (arith, ap (λ (xs : List ℕ). get_or xs 0 0) same))

-- ---- all of it

pub has_held : HasHeld
has_held = (
  view,
  read,
  record {
    still = record { holds = refl; still = λ image same. same };
    view = view_is;
    parts = parts_are;
    was_read = was_read;
    tears_none = tears_none;
    sealed = sealed_at 0 1;
    bytes = second_sector;
    next = next_behind;
    are = second_bytes;
  },
)

pub has_entered : HasEntered
has_entered = record {
  v = view;
  e = second;
  values = values;
  place = 65;
  left = left_at 65;
  behind = record {
    view = view_is;
    parts = parts_are;
    entry = entry_behind;
    entered = entered_at 65;
    changed = not_zeros;
  };
  is_behind = is_behind;
  front = 128;
  front_left = left_at 128;
  in_front = record {
    view = view_is;
    parts = parts_are;
    entry = entry_in_front;
    entered = entered_at 128;
    changed = not_zeros;
  };
  is_in_front = front_is;
}

pub has_ready : HasReady
has_ready =
    let workers : ℕ → ℕ = λ i. 0 in (
      view,
      values,
      ((law_ready new_pair view second 0 65 values workers view_is parts_are entry_behind).0
          is_behind).0,
      ((law_ready new_pair view second 1 128 values workers view_is parts_are entry_in_front).1
          front_is).0,
    )
