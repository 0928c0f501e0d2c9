-- Every definition that a computed row unfolds, under one name.
use Rattle.layout.specs.Bytes.{bytes, number, overwrite}
use Rattle.model.proofs.Computing.{computing as computing_calls}
use Rattle.framing.specs.Frames.{padded, word_sum, check_of, front_of, frame_of, cut_from, frames_for, cut, uncut, stream_of, frame_right, frames_right}
use Rattle.image_model.specs.Items.{many, each, every, all_zero}
use Rattle.image_model.specs.Stream.{form_1, form_2, form_numbered, entry_tail, tail_width, tail_of, tail_right}
use Rattle.image_model.specs.Stream.{marks_of, marks_right, with_marks, carries, blank}
use Rattle.image_model.specs.Stream.{record_bytes, entry_bytes, head_length, head_of, stream, image_of, image_length}
use Rattle.image_model.specs.Reading.{entry_of, entry_right, record_of, record_right, accounts_of, heap_of, items_right, form_in, form_of, size_in}
use Rattle.image_model.specs.Reading.{accounts_in, heap_in, contents_right}
use Rattle.image_model.specs.Images.{line_28, put_lines, write_lines, line_21, line_22, line_23, line_24, line_25, line_26, shape_lines, read_lines}
use Rattle.image_model.specs.Images.{examine_lines}
use Rattle.image_model.specs.Images.{unless_written, unless_read, write_image, read_image, kept_unless}
use Rattle.image_model.specs.Images.{restore_image}

unfoldable pub computing : Unit {0}
unfolding computing_calls bytes number overwrite
    padded word_sum check_of front_of frame_of cut_from frames_for cut uncut stream_of frame_right frames_right
    many each every all_zero
    form_1 form_2 form_numbered entry_tail tail_width tail_of tail_right marks_of marks_right with_marks carries blank
    record_bytes entry_bytes head_length head_of stream image_of image_length
    entry_of entry_right record_of record_right accounts_of heap_of items_right form_in form_of size_in accounts_in heap_in contents_right
    line_28 put_lines write_lines line_21 line_22 line_23 line_24 line_25 line_26 shape_lines read_lines examine_lines
    unless_written unless_read write_image read_image kept_unless restore_image
computing = tt
