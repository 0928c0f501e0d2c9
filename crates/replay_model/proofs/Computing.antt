-- Every definition that a computed replay unfolds, under one name.
use Rattle.model.proofs.Computing.{computing as model_computing}
use Rattle.replay_model.specs.Text.{digits, places, decimal, is_digit, read_on, read_number, same}
use Rattle.replay_model.specs.Lines.{onto, split, join_number, numbers}
use Rattle.replay_model.specs.Commands.{word_of, taking, call_of, opening_of, named, phrase_of, phrase_call, phrase_opening, line_call}
use Rattle.replay_model.specs.Commands.{line_opening}
use Rattle.replay_model.specs.Replay.{tail_of, ok_line, no_line, bad_line, handle_numbers, answer_numbers, answer_line, block_line, block_lines}
use Rattle.replay_model.specs.Replay.{heap_lines, ending, on_call, run_lines, run_opened, run_opening, run_input, replay}

unfoldable pub computing : Unit {0}
unfolding model_computing
    digits places decimal is_digit read_on read_number same
    onto split join_number numbers
    word_of taking call_of opening_of named phrase_of phrase_call phrase_opening line_call line_opening
    tail_of ok_line no_line bad_line handle_numbers answer_numbers answer_line block_line block_lines heap_lines ending on_call run_lines run_opened
    run_opening run_input replay
computing = tt
