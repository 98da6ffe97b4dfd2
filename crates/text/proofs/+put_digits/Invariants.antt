-- A number of one digit is put at once; of any other all digits but the last are put first, and the last behind them. The measure is the number of places.
use Rattle.text.proofs.+put_digits.Given as goal

abbrev pub decreases-put_digits : goal.decreases-put_digits
decreases-put_digits l = l.places
