-- What an event does, by the word with which it begins (this project's own).
use Rattle.std.specs.Prelude.{ℕ, List, Option, Some, None, bytes_eq, codes, if◌then◌else◌}
use Rattle.job_readers.specs.declared.events.Verb.{Verb}
use Rattle.job_readers.specs.declared.events.Verb.TheVariants.{Inject, Take, Send, Dump, Collect}

-- None where the word begins no event.
unfoldable pub verb_named : List ℕ → Option Verb
verb_named w =
    if bytes_eq w (codes "inject") then Some Inject
    else (if bytes_eq w (codes "take") then Some Take
    else (if bytes_eq w (codes "send") then Some Send
    else (if bytes_eq w (codes "dump") then Some Dump
    else (if bytes_eq w (codes "collect") then Some Collect
    else None))))
