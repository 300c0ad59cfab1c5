use Rattle.bc_disk.specs.Disk.{IsCounted}
use Rattle.bc_node.specs.Loading.{good}
use Rattle.bc_reload.proofs.Reloaded.{found_by, not_by, read_by, refused_by}
use Rattle.bc_reload.proofs.leaf.reload.Goals as goal

pub returns-in-Err-clause-refused : goal.returns-in-Err-clause-refused
returns-in-Err-clause-refused g c =
    refused_by c.args.g.now c.args.range.now (g.D.Disk.facts c.args.disk.now) (g.D.Disk.facts c.load.new.disk) c.key_of-key.result c.key_of-key.ensures.names c.in-Err.why c.in-Err.ensures.refused

pub returns-clause-found : goal.returns-clause-found
returns-clause-found g c =
    found_by c.args.g.now c.args.range.now c.args.keys.now (g.D.Disk.facts c.args.disk.now) c.key_of-key.result c.key_of-key.ensures.names c.in-Ok.leaf c.in-Ok.ensures.found c.with_keys.result c.with_keys.ensures.added

pub returns-clause-refused : goal.returns-clause-refused
returns-clause-refused g c =
    not_by c.args.g.now c.args.range.now (g.D.Disk.facts c.args.disk.now) (g.D.Disk.facts c.load.new.disk) c.key_of-key.result c.key_of-key.ensures.names c.in-Ok.ensures.read c.with_keys.result c.with_keys.ensures.memory

pub returns-clause-read : goal.returns-clause-read
returns-clause-read g c = read_by (IsCounted good (g.D.Disk.facts c.args.disk.now) (g.D.Disk.facts c.load.new.disk)) c.in-Ok.ensures.read c.with_keys.result
