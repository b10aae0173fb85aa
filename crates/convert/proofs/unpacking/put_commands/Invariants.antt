use Rattle.std.proofs.Common.{◌≡◌, ◌++◌, string_bytes}
use Rattle.std.specs.List.{flat_map}
use Rattle.days.specs.Writing.{command_text}
use Rattle.feed.specs.Commands.{bytes_left, commands_left}
use Rattle.feed.specs.Files.{commands, unread}
use Rattle.convert.proofs.unpacking.put_commands.Given as goal

-- The text so far, with that of the commands still to come, is all.
abbrev pub invariant-loop-command : goal.invariant-loop-command
invariant-loop-command l = record {
  text : string_bytes l.text ++ flat_map command_text (commands_left l.found) ≡ string_bytes l.initial.text ++ flat_map command_text (commands l.bytes);
  unread : unread (bytes_left l.found) ≡ unread l.bytes;
}
