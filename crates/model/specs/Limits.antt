-- The limits of a log, and the sizes that go with them.
use Rattle.std.specs.Prelude.{ℕ, ◌+◌, ◌*◌}
use Rattle.model.specs.declared.Limits.{Limits}

-- Of the operations: 1 to 8 stations, 0 to 254 events, 0 to 64 messages, 0 to 16 questions, a log of at most 16,384 bytes, a frame list of at most 8,192.
abbrev pub limits : Limits
limits = record { stations = 8; events = 254; messages = 64; questions = 16; bytes = 16384; list = 8192 }

-- Of the printing program, and of the operations before document 02 raised theirs: 127 events, a log of at most 8,192 bytes, a frame list of at most 4,096.
abbrev pub print_limits : Limits
print_limits = record { stations = 8; events = 127; messages = 64; questions = 16; bytes = 8192; list = 4096 }

-- LENT BY THE CALLER: cells of the bar space, bytes of the output for an answer line
abbrev pub barspace_size : ℕ
barspace_size = 8192

abbrev pub line_size : ℕ
line_size = 273

-- LENT BY THE OPERATIONS TO WHAT THEY CALL

-- The structures that are held at a time for a question: never more.
abbrev pub most_held : ℕ
most_held = 54

-- The program's workspace, in which any question of a log within its limits can be worked out.
abbrev pub workspace_size : ℕ
workspace_size = most_held * print_limits.stations * (print_limits.events + 1)

-- The bytes of an event's report in the store, its value in two and its panel in two; and of its slot, with its clock in one for each station.
abbrev pub stored_report : ℕ
stored_report = 4

abbrev pub slot_size : ℕ
slot_size = limits.stations + stored_report

-- The event table: for each station a slot before its first event and one for each event.
abbrev pub table_size : ℕ
table_size = limits.stations * (limits.events + 1) * slot_size

-- The bytes of a message: sender, number of its event, receiver, number of its event.
abbrev pub message_size : ℕ
message_size = 4

-- What is read of a log: the event table, and behind it the messages.
abbrev pub store_size : ℕ
store_size = table_size + limits.messages * message_size

-- The starts: the empty cut and the clock of each event.
abbrev pub starts_size : ℕ
starts_size = (limits.events + 1) * limits.stations

-- What atoms look at: a report for each station and for each event, all values and then all panels; then the number of messages, and three numbers for each.
abbrev pub reports_size : ℕ
reports_size = limits.stations + limits.events

abbrev pub values_size : ℕ
values_size = 2 * reports_size

abbrev pub facts_size : ℕ
facts_size = values_size + 1 + 3 * limits.messages

-- The longest answer's frame: kind, start, number of cuts; at most 16 cuts; the rounds.
abbrev pub frame_size : ℕ
frame_size = 3 + 16 * limits.stations + 4

-- The most that is printed: an answer line for each question.
abbrev pub printed_size : ℕ
printed_size = limits.questions * line_size

-- The most rounds of a pair of structures, events + 1 from each start; and of the pairs of one "and", of which there are at most 16.
abbrev pub pair_rounds : ℕ
pair_rounds = (limits.events + 1) * (limits.events + 1)

abbrev pub step_rounds : ℕ
step_rounds = 16 * pair_rounds
