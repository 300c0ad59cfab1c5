-- The opening of a run over the backing device alone: nothing is cached, no bucket is anybody's, and
-- no record of a cache device is found anywhere.
use Rattle.std.specs.Prelude.{◌≡◌, ℕ, ◌+◌, ◌/◌, ◌%◌, Bool, true, false, [], Option, None, Some, if◌then◌else◌, ◌==◌, refl}
use Rattle.std.proofs.Common.{arith}
use Rattle.bc_model.specs.Sector.{Image}
use Rattle.bc_books.specs.Marks.{Unmarked}
use Rattle.bc_books.specs.Books as book
use Rattle.bc_data.specs.Data as flow
use Rattle.bc_meta.specs.Entries.{Entry}
use Rattle.bc_meta.specs.Facts.{Facts}
use Rattle.bc_meta.specs.Tree.{Owner, NodeSet}
use Rattle.bc_meta.specs.Layout.{Layout, PrioSet}
use Rattle.bc_meta.specs.Records.{Node, Records, Nothing}
use Rattle.bc_meta.specs.Laws as meta
use Rattle.bc_leaves.specs.Parts as parts
use Rattle.bc_leaves.specs.Parts.{NoNode, NoChange}
use Rattle.bc_events.specs.Run.{Opening}

-- ---- a cache device of no buckets

pub never : {A : Type 0} {P : Type 0} (e : A) → None ≡ Some e → P
never e is = absurd (cc)

abbrev pub no_facts : {O A : Type 0} → Facts 1 O A
no_facts = record {
  len = λ e. 1;
  some = λ e. omega arith;
  whole = λ e. (1, refl);
  spelled = λ o values. None;
  long = λ o values e is. never e is;
  found = λ image o end place. None;
  fits = λ image o end place e is. never e is;
  reads_back = λ image o end place values e is. never e is;
  stays = λ a b o end place e is. never e is;
}

abbrev pub no_layout : Layout
no_layout = record {
  buckets = 0;
  journal = 0;
  first = λ q. 0;
  bucket_sectors = 1;
  block = 1;
  node_sectors = 1;
  begins = λ o. 0;
  journal_within = omega arith;
  apart = λ a b t low. absurd (omega arith);
  entries = no_facts;
  sets = no_facts;
  blank = λ image o end place is. refl;
  prios = no_facts;
  fills = λ e. refl;
  chain_sets = 0;
}

-- ---- metadata and the tree's parts, of which there is nothing

abbrev pub no_entry : Entry
no_entry = record {
  number = 0;
  last_seq = 0;
  root = 0;
  word = 0;
  level = 0;
  prio = 0;
  keys = [];
  rest = [];
}

abbrev pub no_owner : Owner
no_owner = record { word = 0; leaf = false }

abbrev pub no_set : NodeSet
no_set = record { seq = 0; keys = []; children = []; rest = [] }

abbrev pub no_node : Node
no_node = record {
  loose = true;
  owner = no_owner;
  sets = [];
  last = no_set;
  sent = false;
  failed = false;
}

abbrev pub no_store : Image → meta.Opening
no_store image = record {
  image = image;
  owners = λ q. no_owner;
  newest = no_entry;
  older = [];
  ring = λ q. [];
  ring_next = λ q. 0;
  bucket = 0;
  unused = λ q. true;
  chain = [];
  gens = [];
  spare = [];
}

abbrev pub no_records : Records
no_records = record {
  waiting = [];
  entry = no_entry;
  stage = Nothing;
  newest = no_entry;
  older = [];
  index = [];
  ring = λ q. [];
  bucket = 0;
  log = [];
  floor = 0;
  nodes = λ q. no_node;
  unused = λ q. true;
}

abbrev pub no_leaf : parts.Leaf
no_leaf = record {
  first = 0;
  end = 0;
  bucket = 0;
  word = 0;
  role = NoNode;
  loaded = false;
  pending = [];
}

abbrev pub no_inner : parts.InnerNode
no_inner = record {
  first = 0;
  end = 0;
  bucket = 0;
  word = 0;
  height = 0;
  role = NoNode;
  loaded = false;
}

abbrev pub no_parts : parts.State
no_parts = record {
  records = no_records;
  leaves = λ i. no_leaf;
  inner_nodes = λ i. no_inner;
  end = 0;
  change = NoChange;
  sent = λ q. [];
}

-- ---- what is opened

-- no bucket is anything, and no sector is cached
abbrev pub no_books : ℕ → book.Setup
no_books size = record {
  bucket = λ t. 0;
  size = size;
  sets = 0;
  fixed = λ b. false;
  index = λ s. None;
  leaf = λ s. 0;
  version = λ b. 0;
  last_gc = λ b. 0;
  mark = λ b. Unmarked;
  listed = λ b. None;
  node = λ b. false;
  chain = λ b. false;
}

-- The backing device shows its data, of so many sectors. Where the run isn't plain, nothing is said
-- of what is cached.
abbrev pub bare_data : Bool → ℕ → Image → Image → flow.Opening
bare_data plain size cache held = record {
  books = no_books size;
  plain = plain;
  cache = cache;
  backing = held;
  image = held;
}

abbrev pub plain_data : ℕ → Image → Image → flow.Opening
plain_data size cache held = bare_data true size cache held

-- The first seat of each sixteen is that of a worker; those behind it help it, and serve no line.
abbrev pub worker_of : ℕ → ℕ
worker_of i = if i % 16 == 0 then i / 16 else 320 + i

abbrev pub bare_opening : Bool → ℕ → Image → Image → Opening
bare_opening plain size cache held = record {
  machine = record {
    flow = bare_data plain size cache held;
    layout = no_layout;
    before = 0;
    store = no_store cache;
  };
  worker = worker_of;
}

abbrev pub plain_opening : ℕ → Image → Image → Opening
plain_opening size cache held = bare_opening true size cache held
