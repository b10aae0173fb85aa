use Rattle.std.proofs.Common.{◌≡◌, ◌++◌, take, vec_items}
use Rattle.std.specs.List.{flat_map}
use Rattle.feed.specs.Files.{command_bytes}
use Rattle.convert.proofs.packing.put_commands.Given as goal

abbrev pub invariant-loop-command : goal.invariant-loop-command
invariant-loop-command l = vec_items l.file ≡ vec_items l.initial.file ++ flat_map command_bytes (take l.command-index l.commands)
