-- Every definition that a computed row unfolds, under one name.
use Rattle.report.specs.Words.{digit, value, is_digit, all_digits, digits, number, mark, text, line_text, word_right, words_right, words, all_zero}
use Rattle.report.specs.Import.{line_of, in_front, with_line, lines_from, imported, import_of, grants_told}
use Rattle.report.specs.Export.{lines_text, export_of, text_told}

unfoldable pub computing : Unit {0}
unfolding
    digit value is_digit all_digits digits number mark text line_text word_right words_right words all_zero
    line_of in_front with_line lines_from imported import_of grants_told
    lines_text export_of text_told
computing = tt
